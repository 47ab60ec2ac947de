-- What the end of an owner gives, and what its calls after its stop do and answer.
use Rattle.std.specs.Prelude.{◌≡◌, Bool, List, [], ◌∷◌, ◌++◌, map, Result, MatchBool, MatchResult}
use Rattle.port_model.specs.declared.error.PortError.{PortError}
use Rattle.port_model.specs.declared.error.PortError.TheVariants.{Memory}
use Rattle.port_model.specs.declared.inbox.entry.Entry.{Entry}
use Rattle.port_model.specs.declared.refused.Refused.{Refused}
use Rattle.port_model.specs.declared.inbox.placed.Placed.{Placed}
use Rattle.port_model.specs.Calls.{after_draws, AreNext, ComesBack, HasDrawn, IsDrawn}
use Rattle.port_model.specs.Ends.{OwnerState}
use Rattle.port_model.specs.Left.{AreWaiting}
use Rattle.port_model.specs.Put.{StartsWith, AllThere}
use Rattle.input_port.specs.QueueCalls.{IsGathered}
use Rattle.input_port.specs.QueueEnds.{SenderState, FinishedState}

-- At its end the owner drew these entries, each the next of its number, and came to a fresh point: all that it knew is drawn,
-- and of the gathered senders all that they put.
pub record DrewAll (old : OwnerState) (end : FinishedState) (news : List Placed) : Type 0 where
  pub drawn : end.drawn ≡ old.drawn ++ news
  pub next : AreNext old.drawn news
  pub fresh : end.known ≡ end.drawn
  pub kept : StartsWith end.known old.known
  pub gathered : end.gathered ≡ old.gathered
  pub there : AllThere end.known end.gathered

-- The end of an owner: what is left is what waits in the port of the standard once all is drawn. That is what was put and
-- neither taken nor reset, in its order, each timer's signal with the fuse that its set gave.
pub record Finishes (old : OwnerState) (end : FinishedState) : Type 0 where
  pub news : List Placed
  pub all : DrewAll old end news
  pub list : AreWaiting (after_draws old.pid old.state news).waiting old.pid old.armed end.entries

abbrev pub FinishIs : OwnerState → Result FinishedState (Refused OwnerState) → Type 0
FinishIs old result =
    MatchResult result (λ end. Finishes old end) (λ back. (back.error ≡ Memory) × HasDrawn old back.value)

abbrev pub entry_of : Placed → Entry
entry_of placed = placed.entry

-- After its stop the owner drew these entries, in their order, and keeps them. Its port is as the stop left it.
pub record IsDrawnSince (old new : OwnerState) (since kept : List Entry) (news : List Placed) : Type 0 where
  pub draws : IsDrawn old (record new { state = after_draws old.pid old.state news }) news
  pub state : new.state ≡ old.state
  pub since_is : kept ≡ since ++ map entry_of news

abbrev pub HasDrawnSince : OwnerState → OwnerState → List Entry → List Entry → Type 0
HasDrawnSince old new since kept = (news : List Placed) × IsDrawnSince old new since kept news

-- the answer to a pull after the stop
abbrev pub PullSinceIs : OwnerState → OwnerState → List Entry → List Entry → Result Bool PortError → Type 0
PullSinceIs old new since kept result = MatchResult result
    (λ more. MatchBool more ((placed : Placed) × IsDrawnSince old new since kept (placed ∷ []))
    ((new ≡ old) × (kept ≡ since) × (new.known ≡ new.drawn)))
    (λ error. (error ≡ Memory) × (new ≡ old) × (kept ≡ since))

-- A gathering after the stop: as before it, and what is drawn on the way is kept.
pub record GathersSince (old new : OwnerState) (since kept : List Entry) (sender : SenderState) : Type 0 where
  pub news : List Placed
  pub gathers : IsGathered old (record new { state = after_draws old.pid old.state news }) sender news
  pub state : new.state ≡ old.state
  pub since_is : kept ≡ since ++ map entry_of news

abbrev pub GatherSinceIs :
    OwnerState → OwnerState → List Entry → List Entry → SenderState → Result (Unit {0}) (Refused SenderState) → Type 0
GatherSinceIs old new since kept sender result = MatchResult result
    (λ _. GathersSince old new since kept sender)
    (λ back. ComesBack back sender × (new ≡ old) × (kept ≡ since))

-- The end after a stop: what is left are the entries drawn since, once all is drawn.
pub record FinishesSince (old : OwnerState) (since : List Entry) (end : FinishedState) : Type 0 where
  pub news : List Placed
  pub all : DrewAll old end news
  pub list : end.entries ≡ since ++ map entry_of news
