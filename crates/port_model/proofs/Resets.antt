-- What was reset stays away until it is set again, and a stopped port stays stopped.
use Rattle.std.proofs.Common.{◌≡◌, ◌≢◌, ℕ, ◌+◌, Bool, true, false, not, ◌&&◌, List, [], ◌∷◌, All, subst, sym, ap, ◌∙◌, refl, ⊎_elim, arith}
use Rattle.std.specs.List.{list_any}
use Rattle.std.proofs.lemmas.List.Elements.{All-nil, All-cons, All-head, All-tail}
use Rattle.port_model.specs.declared.values.timer_key.TimerKey.{TimerKey}
use Rattle.port_model.specs.declared.timer.ActiveTimer.{ActiveTimer}
use Rattle.port_model.specs.declared.timer.Phase.TheVariants.{Running}
use Rattle.port_model.specs.declared.got.Got.{Got}
use Rattle.port_model.specs.declared.got.Got.TheVariants.{Signal, Timer}
use Rattle.port_model.specs.declared.taken.Taken.TheVariants.{Consumed, Discarded, Nothing}
use Rattle.port_model.specs.History.{PortEvent, Put, Expire, Take, Set, Reset, Stop, PortStep, IsLegal}
use Rattle.port_model.specs.Laws.{IsNoSetOf, IsNoTakeOf, ResetsForGood, IsFromOutside, StopsForGood}
use Rattle.port_model.specs.Port.{PortState, remove_from}
use Rattle.port_model.specs.Take.{IsOrdinary, IsSaved, TakesFirst}
use Rattle.port_model.specs.Timers.{same_key, same_phase, is_active, is_running, is_signal_of, with_waiting, without_key, after_taking}
use Rattle.port_model.proofs.Keys.{same_itself, same_key-Decides}
use Rattle.port_model.proofs.Lists.{any_implied, any_with, middle, none_filter, none_passes, pushed}

-- an expiry leaves the keys of the map
pub is_active-with_waiting : (key other : TimerKey) (arm : ℕ) (timers : List ActiveTimer)
    → is_active key (with_waiting other arm timers) ≡ is_active key timers
is_active-with_waiting key other arm [] = refl
is_active-with_waiting key other arm (timer ∷ timers) = grind (arith, is_active-with_waiting key other arm timers)

-- neither the timer nor its signal is there
pub record IsGone (key : TimerKey) (port : PortState) : Type 0 where
  pub signal : list_any (is_signal_of key) port.waiting ≡ false
  pub timer : is_active key port.timers ≡ false

-- a Running timer is active
pub active_from_running : (key : TimerKey) (arm due : ℕ) (timers : List ActiveTimer) → is_running key arm due timers ≡ true → is_active key timers ≡ true
active_from_running key arm due =
    any_implied (λ timer. same_key timer.key key && same_phase timer.phase (Running arm due)) (λ timer. same_key timer.key key) (λ timer is. grind arith)

module _ (key : TimerKey) where
  abbrev has : ActiveTimer → Bool
  has timer = same_key timer.key key

  gone_removed : (other : TimerKey) (old : PortState) → IsGone key old → IsGone key (remove_from old other)
  gone_removed other old gone = record {
    signal = none_filter (is_signal_of key) (λ got. not (is_signal_of other got)) old.waiting gone.signal;
    timer = none_filter has (λ timer. not (same_key timer.key other)) old.timers gone.timer;
  }

  gone_after_taking : (got : Got) (timers : List ActiveTimer) → is_active key timers ≡ false → is_active key (after_taking got timers) ≡ false
  gone_after_taking (Signal item) timers gone = gone
  gone_after_taking (Timer other) timers gone = none_filter has (λ timer. not (same_key timer.key other)) timers gone

  gone_taken : (Passed : Got → Type 0) (old new : PortState) (got : Got) → IsGone key old → TakesFirst Passed old got new
      → IsGone key new × (got ≢ Timer key)
  gone_taken Passed old new got gone t =
      let was = any_with (is_signal_of key) (middle t.before t.after got) in let none = gone.signal in let is = t.was in
      let now = t.now in let timers = gone_after_taking got old.timers gone.timer in (
        record { signal = grind arith; timer = grind arith },
        λ e. let same = same_itself key in let is_it = ap (is_signal_of key) e in grind arith,
      )

  -- it stays so, and no take gives the signal, until the timer is set again
  gone_step : (old new : PortState) (event : PortEvent) → IsGone key old → PortStep old event new → IsNoSetOf key event
      → IsGone key new × IsNoTakeOf key event
  gone_step old new (Put item) gone step unset =
      let more = any_with (is_signal_of key) (pushed old.waiting (Signal item)) in (record { signal = grind arith; timer = grind arith }, tt)
  gone_step old new (Expire other arm due at) gone step unset =
      let more = any_with (is_signal_of key) (pushed old.waiting (Timer other)) in let same = is_active-with_waiting key other arm old.timers in
      let active = active_from_running other arm due old.timers in
      let one : same_key other key ≡ true → is_active other old.timers ≡ is_active key old.timers =
      λ e. ap (λ k. is_active k old.timers) ((same_key-Decides other key).0 e) in (record { signal = grind arith; timer = grind arith }, tt)
  gone_step old new (Take classes (Consumed got)) gone step unset =
      ⊎_elim
      (λ urgent. gone_taken (IsOrdinary classes) old new got gone urgent.0)
      (λ first. gone_taken (IsSaved classes) old new got gone first.1)
      step.1
  gone_step old new (Take classes (Discarded got)) gone step unset = gone_taken (IsSaved classes) old new got gone step.1.1
  gone_step old new (Take classes Nothing) gone step unset = (subst (IsGone key) (sym step.1.1) gone, tt)
  gone_step old new (Set other due arm) gone step unset =
      let removed = gone_removed other old gone in let same = (same_key-Decides other key).0 in
      let more = any_with has (pushed (without_key other old.timers) (record { key = other; phase = Running (old.sets + 1) due })) in
      (record { signal = grind arith; timer = grind arith }, tt)
  gone_step old new (Reset other) gone step unset = (subst (IsGone key) (sym step.1) (gone_removed other old gone), tt)
  gone_step old new Stop gone step unset = (record { signal = grind arith; timer = grind arith }, tt)

  gone_run : (old new : PortState) (events : List PortEvent) → IsGone key old → IsLegal old events new → All (IsNoSetOf key) events
      → All (IsNoTakeOf key) events
  gone_run old new [] gone legal unset = All-nil (IsNoTakeOf key)
  gone_run old new (event ∷ events) gone legal unset =
      let step = gone_step old legal.0 event gone legal.1 (All-head (IsNoSetOf key) event events unset) in
      All-cons (IsNoTakeOf key) event events step.1
      (gone_run legal.0 new events step.0 legal.2 (All-tail (IsNoSetOf key) event events unset))

pub resets_for_good : ResetsForGood
resets_for_good key old new events legal unset =
    let gone : IsGone key (remove_from old key) =
    record { signal = none_passes (is_signal_of key) old.waiting; timer = none_passes (λ timer. same_key timer.key key) old.timers } in
    gone_run key legal.0 new events (subst (IsGone key) (sym legal.1.1) gone) legal.2 unset

-- a stopped port
record IsStopped (port : PortState) : Type 0 where
  alive : port.alive ≡ false
  waiting : port.waiting ≡ []
  timers : port.timers ≡ []

stopped_step : (old new : PortState) (event : PortEvent) → IsStopped old → PortStep old event new → IsFromOutside event × IsStopped new
stopped_step old new (Put item) ended step = (tt, record { alive = grind arith; waiting = grind arith; timers = grind arith })
stopped_step old new (Expire key arm due at) ended step = (tt, record { alive = grind arith; waiting = grind arith; timers = grind arith })
stopped_step old new (Take classes taken) ended step = let is = step.0 in let isnt = ended.alive in absurd cc
stopped_step old new (Set key due arm) ended step = let is = step.0 in let isnt = ended.alive in absurd cc
stopped_step old new (Reset key) ended step = let is = step.0 in let isnt = ended.alive in absurd cc
stopped_step old new Stop ended step = let is = step.0 in let isnt = ended.alive in absurd cc

stopped_run : (old new : PortState) (events : List PortEvent) → IsStopped old → IsLegal old events new
    → All IsFromOutside events × (new.waiting ≡ [])
stopped_run old new [] ended legal = (All-nil IsFromOutside, ap (λ p. p.waiting) legal ∙ ended.waiting)
stopped_run old new (event ∷ events) ended legal =
    let step = stopped_step old legal.0 event ended legal.1 in
    let rest = stopped_run legal.0 new events step.1 legal.2 in
    (All-cons IsFromOutside event events step.0 rest.0, rest.1)

pub stops_for_good : StopsForGood
stops_for_good old new events legal =
    stopped_run legal.0 new events
    (subst IsStopped (sym legal.1.1) (record { alive = refl; waiting = refl; timers = refl })) legal.2
