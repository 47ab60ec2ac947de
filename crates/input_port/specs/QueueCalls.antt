-- What the calls of senders and of what draws do, and what they answer.
use Rattle.std.specs.Prelude.{◌≡◌, ℕ, Bool, true, ◌+◌, List, [], ◌∷◌, ◌++◌, length, Option, None, Some, Result, MatchBool, MatchOption, MatchResult}
use Rattle.port_model.specs.PlainPort.{armed_left}
use Rattle.port_model.specs.Take.{Takes}
use Rattle.port_model.specs.declared.error.PortError.{PortError}
use Rattle.port_model.specs.declared.error.PortError.TheVariants.{Memory}
use Rattle.port_model.specs.declared.selection.Class.{Class}
use Rattle.port_model.specs.declared.taken.Taken.{Taken}
use Rattle.port_model.specs.declared.inbox.entry.Entry.{Entry}
use Rattle.port_model.specs.declared.refused.Refused.{Refused}
use Rattle.port_model.specs.declared.inbox.placed.Placed.{Placed}
use Rattle.input_port.specs.declared.queue.rule.View.{View}
use Rattle.port_model.specs.Calls.{after_draw, known_after, AreNext, ComesBack, IsDrawn}
use Rattle.port_model.specs.Ends.{OwnerState}
use Rattle.input_port.specs.QueueEnds.{SenderState, sent_by}
use Rattle.port_model.specs.Put.{StartsWith, of, longer, AllThere, Apart}

-- A put or an expiry of a sender: behind all that it had seen came entries of others, and then just this one, as its next.
pub record Puts (old new : SenderState) (at : ℕ) (entry : Entry) : Type 0 where
  pub port : new.port ≡ old.port
  pub number : new.number ≡ old.number
  pub between : List Placed
  pub others : of old.number between ≡ []
  pub seen : new.seen ≡ (old.seen ++ between) ++ record { number = old.number; count = sent_by old + 1; at = at; entry = entry } ∷ []

-- The answer to a put or an expiry. A refused one adds nothing.
abbrev pub PutIs : {T : Type 0} → SenderState → SenderState → ℕ → Entry → T → Result (Unit {0}) (Refused T) → Type 0
PutIs old new at entry value result =
    MatchResult result (λ _. Puts old new at entry) (λ back. ComesBack back value × (new ≡ old))

-- The answer to a drain. At a fresh point all that the owner knows is drawn.
abbrev pub DrainIs : OwnerState → Result (Unit {0}) PortError → Type 0
DrainIs new result = MatchResult result (λ _. new.known ≡ new.drawn) (λ error. error ≡ Memory)

-- the answer to a pull: whether one entry was drawn, or else the owner is at a fresh point
abbrev pub PullIs : OwnerState → OwnerState → Result Bool PortError → Type 0
PullIs old new result = MatchResult result
    (λ more. MatchBool more ((placed : Placed) × IsDrawn old new (placed ∷ [])) ((new ≡ old) × (new.known ≡ new.drawn)))
    (λ error. (error ≡ Memory) × (new ≡ old))

-- Where nothing waits, one entry is drawn, and then taken as the standard says.
pub record TakesNext (classes : List Class) (old new : OwnerState) (taken : Taken) : Type 0 where
  pub placed : Placed
  pub draws : IsDrawn old (record new { state = after_draw old.pid old.state placed; armed = old.armed }) (placed ∷ [])
  pub take : Takes classes (after_draw old.pid old.state placed) taken new.state
  pub armed : new.armed ≡ armed_left taken old.armed

-- the answer to that: an entry was drawn, and what was taken; or else the owner is at a fresh point
abbrev pub NextIs : List Class → OwnerState → OwnerState → Result (Option Taken) PortError → Type 0
NextIs classes old new result = MatchResult result
    (λ next. MatchOption next ((new ≡ old) × (new.known ≡ new.drawn)) (λ taken. TakesNext classes old new taken))
    (λ error. (error ≡ Memory) × (new ≡ old))

-- what a pop gave, as a list
abbrev pub popped_list : Option Placed → List Placed
popped_list None = []
popped_list (Some placed) = placed ∷ []

-- The owner takes a sender's pass in, and these entries are drawn on the way. It knows all that it knew and all that the sender
-- had seen. The sender is the last of the gathered, and all that it has put stands in the known list.
pub record TakesIn (v u w : View) (news : List Placed) : Type 0 where
  pub takes : w.takes ≡ true
  pub drawn : w.drawn ≡ v.drawn ++ news
  pub next : AreNext v.drawn news
  pub known : w.seen ≡ known_after (longer v.seen u.seen) v.drawn news
  pub longest : StartsWith w.seen (longer v.seen u.seen)
  pub kept : StartsWith w.seen v.seen
  pub told : StartsWith w.seen u.seen
  pub gathered : w.gathered ≡ record { number = u.number; count = u.count } ∷ v.gathered
  pub all : length (of u.number w.seen) ≡ u.count
  pub begins : StartsWith w.seen w.drawn
  pub there : AllThere w.seen w.gathered
  pub apart : Apart w.gathered

-- A gathering: the owner knows all that it knew and all that the sender had seen, and all that the sender has put is among
-- that. On the way it draws these entries: one, or none.
pub record IsGathered (old new : OwnerState) (sender : SenderState) (news : List Placed) : Type 0 where
  pub draws : IsDrawn (record old { known = longer old.known sender.seen; gathered = record { number = sender.number; count = sent_by sender } ∷ old.gathered }) new news
  pub kept : StartsWith new.known old.known
  pub told : StartsWith new.known sender.seen
  pub all : length (of sender.number new.known) ≡ sent_by sender

abbrev pub Gathers : OwnerState → OwnerState → SenderState → Type 0
Gathers old new sender = (news : List Placed) × IsGathered old new sender news

-- the answer to a gathering
abbrev pub GatherIs : OwnerState → OwnerState → SenderState → Result (Unit {0}) (Refused SenderState) → Type 0
GatherIs old new sender result =
    MatchResult result (λ _. Gathers old new sender) (λ back. ComesBack back sender × (new ≡ old))

-- A meeting: the owner knows all that it knew and all that the sender had seen, and the sender comes back with its number and
-- its entries, and has seen all that the owner knows. On the way the owner draws one entry, or none.
pub record Meets (old new : OwnerState) (sender back : SenderState) : Type 0 where
  pub news : List Placed
  pub draws : IsDrawn (record old { known = longer old.known sender.seen }) new news
  pub kept : StartsWith new.known old.known
  pub told : StartsWith new.known sender.seen
  pub port : back.port ≡ sender.port
  pub number : back.number ≡ sender.number
  pub own : of back.number back.seen ≡ of sender.number sender.seen
  pub seen : back.seen ≡ new.known

-- the answer to a meeting
abbrev pub MeetIs : OwnerState → OwnerState → SenderState → Result SenderState (Refused SenderState) → Type 0
MeetIs old new sender result =
    MatchResult result (λ back. Meets old new sender back) (λ back. ComesBack back sender × (new ≡ old))
