use Rattle.std.proofs.Common.{◌≡◌, Bool, true, false, List, [], ◌∷◌, ◌++◌, map, Result, Ok, Err, refl, sym, ap, ◌∙◌, append_assoc, append-nil, All, ⊎_elim}
use Rattle.port_model.specs.declared.error.PortError.{PortError}
use Rattle.port_model.specs.declared.refused.Refused.{Refused}
use Rattle.port_model.specs.declared.taken.Taken.TheVariants.{Consumed, Discarded, Nothing}
use Rattle.port_model.specs.declared.selection.Class.TheVariants as class
use Rattle.std.proofs.lemmas.List.{map-append}
use Rattle.std.proofs.lemmas.List.Elements.{All-cons, All-nil}
use Rattle.port_model.specs.declared.selection.Class.{Class}
use Rattle.port_model.specs.declared.taken.Taken.{Taken}
use Rattle.input_port.specs.Words.{after_draws, entry_of, left_with, AreNext, AreWaiting, DrewAll, Entry, FinishedState, Finishes, FinishesSince, GatherIs, HasDrawn, HasDrawnHere, HasDrawnSince, IsDrawn, IsKnowing, Leaves, MeetIs, OwnerState, Placed, PortState, PullSinceIs, HeldState, IsTimely, SenderState, TakeIs}
use Rattle.port_model.specs.Take as take
use Rattle.port_model.proofs.Alive.{after_draws-alive}
use Rattle.input_port.proofs.QueueDrawing.{drawn_more, drawn_none}

-- The same after a stop: `grown` is what the owner would be, had its port not been stopped.
abbrev grown : OwnerState → OwnerState → List Placed → OwnerState
grown old new news = record new { state = after_draws old.pid old.state news }

pub since_none : (old : OwnerState) (since : List Entry) → HasDrawnSince old old since since
since_none old since = ([], record { draws = drawn_none old; state = refl; since_is = sym (append-nil since) })

pub since_more : (old mid new : OwnerState) (since more kept : List Entry) → HasDrawnSince old mid since more → HasDrawnSince mid new more kept
    → HasDrawnSince old new since kept
since_more old mid new since more kept a b =
    let f = a.1 in
    let s = b.1 in
    let middle : OwnerState = grown old mid a.0 in
    let next : IsDrawn middle (grown middle new b.0) b.0 = let d = s.draws in assumption in
    let both = drawn_more old middle (grown middle new b.0) a.0 b.0 f.draws next in (
      a.0 ++ b.0,
      record {
        draws = assumption both;
        state = s.state ∙ f.state;
        since_is = s.since_is ∙ ap (λ l. l ++ map entry_of b.0) f.since_is
            ∙ append_assoc since (map entry_of a.0) (map entry_of b.0)
            ∙ ap (λ l. since ++ l) (sym (map-append entry_of a.0 b.0));
      },
    )

pub pull_since : (old new : OwnerState) (since kept : List Entry) (r : Result Bool PortError)
    → PullSinceIs old new since kept r → HasDrawnSince old new since kept
pull_since old new since kept (Ok true) pulled = (pulled.0 ∷ [], pulled.1)
pull_since old new since kept (Ok false) pulled = rw (pulled.0, pulled.1) (since_none old since)
pull_since old new since kept (Err error) pulled = rw (pulled.1, pulled.2) (since_none old since)

-- a take leaves a living port alive, and so do draws
pub taken-alive : (classes : List Class) (old new : PortState) (taken : Taken) → take.Takes classes old taken new → new.alive ≡ old.alive
taken-alive classes old new (Consumed g) takes = ⊎_elim (λ (t : take.TakesFirst (take.IsOrdinary classes) old g new × take.HasClass class.Priority classes g). ap (λ p. p.alive) t.0.now)
    (λ (t : All (take.IsOrdinary classes) old.waiting × take.TakesFirst (take.IsSaved classes) old g new × take.HasClass class.Input classes g). ap (λ p. p.alive) t.1.now) takes
taken-alive classes old new (Discarded g) takes = ap (λ p. p.alive) takes.1.now
taken-alive classes old new Nothing takes = ap (λ p. p.alive) takes.1

pub drawn-alive : (old new : OwnerState) (news : List Placed) → IsDrawn old new news → new.state.alive ≡ old.state.alive
drawn-alive old new news d = ap (λ p. p.alive) d.state ∙ after_draws-alive old.pid old.state news

-- at a fresh point all is drawn
drew_all : (old mid : OwnerState) (entries : List Entry) (news : List Placed) → IsDrawn old (grown old mid news) news
    → mid.known ≡ mid.drawn → IsKnowing mid → DrewAll old (left_with mid entries) news
drew_all old mid entries news d fresh knows = assumption

-- what is left is what waits then
pub finishes : (old mid : OwnerState) (end : FinishedState) → HasDrawn old mid → mid.known ≡ mid.drawn → IsKnowing mid
    → end ≡ left_with mid end.entries → AreWaiting mid.state.waiting mid.pid mid.armed end.entries → Finishes old end
finishes old mid end a fresh knows left list =
    let s = a.1 in
    let d : IsDrawn old (grown old mid a.0) a.0 = assumption in
    record {
      news = a.0;
      all = rw left (drew_all old mid end.entries a.0 d fresh knows);
      list = rw (s.state, s.armed, s.pid) at list;
    }

-- the same after a stop
pub finishes_since : (old mid : OwnerState) (since kept : List Entry) → HasDrawnSince old mid since kept
    → mid.known ≡ mid.drawn → IsKnowing mid → FinishesSince old since (left_with mid kept)
finishes_since old mid since kept a fresh knows =
    record { news = a.0; all = drew_all old mid kept a.0 a.1.draws fresh knows; list = a.1.since_is }

pub take-alive : (classes : List Class) (old new : OwnerState) (r : Result Taken PortError)
    → TakeIs classes old new r → new.state.alive ≡ old.state.alive
take-alive classes old new (Ok taken) is = taken-alive classes (after_draws old.pid old.state is.news) new.state taken is.take ∙ after_draws-alive old.pid old.state is.news
take-alive classes old new (Err error) is = drawn-alive old new is.1.0 is.1.1

-- a gathering and a meeting leave a living owner alive
pub gather-alive : (old new : OwnerState) (sender : SenderState) (r : Result (Unit {0}) (Refused SenderState)) → GatherIs old new sender r → new.state.alive ≡ old.state.alive
gather-alive old new sender (Ok u) is = drawn-alive _ new is.0 is.1.draws
gather-alive old new sender (Err e) is = ap (λ o. o.state.alive) is.1

pub meet-alive : (old new : OwnerState) (sender : SenderState) (r : Result SenderState (Refused SenderState)) → MeetIs old new sender r → new.state.alive ≡ old.state.alive
meet-alive old new sender (Ok back) is = drawn-alive _ new is.news is.draws
meet-alive old new sender (Err e) is = ap (λ o. o.state.alive) is.1

-- what an inbox leaves that has stopped
pub leaves_stopped : (old mid : HeldState) → HasDrawnHere old mid → mid.owner.known ≡ mid.owner.drawn
    → IsKnowing mid.owner
    → mid.owner.state.alive ≡ false → Leaves old (left_with mid.owner mid.since)
leaves_stopped old mid here fresh knows dead = record {
  living = λ alive. let still = drawn-alive old.owner mid.owner _ (here.living alive).0.1 ∙ alive in absurd cc;
  stopped = λ stop. finishes_since old.owner mid.owner old.since mid.since (here.stopped stop) fresh knows;
}

-- no expiry among the drawn entries came before its due time
pub timely_next : (drawn news : List Placed) → AreNext drawn news → All IsTimely news
timely_next drawn [] next = All-nil IsTimely
timely_next drawn (x ∷ xs) next = All-cons IsTimely x xs next.2 (timely_next (drawn ++ x ∷ []) xs next.3)

-- what keeps an owner alive
pub ruleset alive = (drawn-alive, take-alive, gather-alive, meet-alive)
