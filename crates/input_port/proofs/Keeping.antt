-- What an inbox over a shared port keeps: each drawn expiry came in time, and after a stop no timer is set.
use Rattle.std.proofs.Common.{◌≡◌, ◌∙◌, ℕ, true, false, List, [], ◌∷◌, ◌++◌, Result, Ok, Err, All, ap, subst, sym}
use Rattle.std.proofs.lemmas.List.Elements.{All-append}
use Rattle.port_model.specs.declared.error.PortError.{PortError}
use Rattle.port_model.specs.declared.refused.Refused.{Refused}
use Rattle.port_model.specs.declared.selection.Class.{Class}
use Rattle.port_model.specs.declared.taken.Taken.{Taken}
use Rattle.port_model.specs.declared.inbox.entry.Fuse.{Fuse}
use Rattle.port_model.specs.declared.values.timer_key.TimerKey.{TimerKey}
use Rattle.input_port.proofs.Drawing.{drawn-alive, gather-alive, meet-alive, take-alive, timely_next}
use Rattle.input_port.specs.Words.{after_reset, after_stop, AreNext, Entry, GatherIs, GatherSinceIs, HasDrawn, HasDrawnSince, IsKept, IsTimely, OwnerState, Placed, SenderState, SetIs, TakeIs}

-- ---- one way to keep it before a stop, and one after it

living : (old new : OwnerState) (news : List Placed) → new.drawn ≡ old.drawn ++ news → AreNext old.drawn news
    → new.state.alive ≡ true → IsKept old → IsKept new
living old new news drawn next alive kept = record {
  timely = subst (All IsTimely) (sym drawn)
      (All-append IsTimely old.drawn news kept.timely (timely_next old.drawn news next));
  over = λ stop. absurd cc;
}

over : (old new : OwnerState) (news : List Placed) → new.drawn ≡ old.drawn ++ news → AreNext old.drawn news
    → new.state ≡ old.state → IsKept old → IsKept new
over old new news drawn next state kept = record {
  timely = subst (All IsTimely) (sym drawn)
      (All-append IsTimely old.drawn news kept.timely (timely_next old.drawn news next));
  over = λ stop. ap (λ p. p.timers) state ∙ kept.over (sym (ap (λ p. p.alive) state) ∙ stop);
}

-- nothing is drawn
quiet : (old new : OwnerState) → new.drawn ≡ old.drawn → new.state.alive ≡ true → IsKept old → IsKept new
quiet old new drawn alive kept =
    record { timely = subst (All IsTimely) (sym drawn) kept.timely; over = λ stop. absurd cc }

same : (old new : OwnerState) → new ≡ old → IsKept old → IsKept new
same old new is kept = subst IsKept (sym is) kept

-- ---- the calls

pub kept_new : (owner : OwnerState) → All IsTimely owner.drawn → owner.state.alive ≡ true → IsKept owner
kept_new owner timely alive = record { timely = timely; over = λ stop. absurd cc }

pub kept_take : (classes : List Class) (old new : OwnerState) (r : Result Taken PortError) → TakeIs classes old new r
    → old.state.alive ≡ true → IsKept old → IsKept new
kept_take classes old new (Ok taken) is alive kept =
    living old new is.news is.draws.drawn is.draws.next (take-alive classes old new (Ok taken) is ∙ alive) kept
kept_take classes old new (Err error) is alive kept =
    living old new is.1.0 is.1.1.drawn is.1.1.next (take-alive classes old new (Err error) is ∙ alive) kept

pub kept_drain : (old new : OwnerState) → HasDrawn old new → old.state.alive ≡ true → IsKept old → IsKept new
kept_drain old new is alive kept =
    living old new is.0 is.1.drawn is.1.next (drawn-alive old new is.0 is.1 ∙ alive) kept

pub kept_gather : (old new : OwnerState) (sender : SenderState) (r : Result (Unit {0}) (Refused SenderState))
    → GatherIs old new sender r → old.state.alive ≡ true → IsKept old → IsKept new
kept_gather old new sender (Ok u) is alive kept =
    living old new is.0 is.1.draws.drawn is.1.draws.next (gather-alive old new sender (Ok u) is ∙ alive) kept
kept_gather old new sender (Err back) is alive kept = same old new is.1 kept

pub kept_set : (old new : OwnerState) (key : TimerKey) (due : ℕ) (r : Result Fuse PortError) → SetIs old new key due r
    → old.state.alive ≡ true → IsKept old → IsKept new
kept_set old new key due (Ok fuse) is alive kept =
    quiet old new (ap (λ o. o.drawn) is.owner) (ap (λ o. o.state.alive) is.owner ∙ alive) kept
kept_set old new key due (Err error) is alive kept = same old new is.same kept

pub kept_reset : (old new : OwnerState) (key : TimerKey) → new ≡ after_reset old key → old.state.alive ≡ true → IsKept old
    → IsKept new
kept_reset old new key is alive kept =
    quiet old new (ap (λ o. o.drawn) is) (ap (λ o. o.state.alive) is ∙ alive) kept

pub kept_stop : (old new : OwnerState) → new ≡ after_stop old → IsKept old → IsKept new
kept_stop old new is kept = record {
  timely = subst (All IsTimely) (sym (ap (λ o. o.drawn) is)) kept.timely;
  over = λ stop. ap (λ o. o.state.timers) is;
}

-- ---- the calls after a stop

pub kept_gather_since : (old new : OwnerState) (before after : List Entry) (sender : SenderState)
    (r : Result (Unit {0}) (Refused SenderState)) → GatherSinceIs old new before after sender r → IsKept old → IsKept new
kept_gather_since old new before after sender (Ok u) is kept =
    over old new is.news is.gathers.draws.drawn is.gathers.draws.next is.state kept
kept_gather_since old new before after sender (Err back) is kept = same old new is.1 kept

pub kept_drain_since : (old new : OwnerState) (before after : List Entry) → HasDrawnSince old new before after → IsKept old
    → IsKept new
kept_drain_since old new before after is kept = over old new is.0 is.1.draws.drawn is.1.draws.next is.1.state kept

-- what keeps an owner alive, and what it keeps
pub ruleset kept = (
  drawn-alive,
  take-alive,
  gather-alive,
  meet-alive,
  kept_new,
  kept_take,
  kept_drain,
  kept_gather,
  kept_set,
  kept_reset,
  kept_stop,
  kept_gather_since,
  kept_drain_since,
)
