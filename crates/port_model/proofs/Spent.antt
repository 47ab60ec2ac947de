-- A set by which no timer runs any more stays so.
use Rattle.std.proofs.Common.{◌≡◌, ◌∙◌, ◌&&◌, ◌||◌, ◌+◌, ◌≤◌, ap, arith, if◌then◌else◌, leb-true, le-leb, ne_eqb, refl, subst, sym, ⊎_elim, ℕ, nat_eq, nat_le, not, Bool, true, false, List, [], ◌∷◌, ◌++◌}
use Rattle.port_model.specs.declared.values.item.Item.{Item}
use Rattle.port_model.specs.declared.values.timer_key.TimerKey.{TimerKey}
use Rattle.port_model.specs.declared.got.Got.{Got}
use Rattle.port_model.specs.declared.got.Got.TheVariants.{Signal, Timer}
use Rattle.port_model.specs.declared.selection.Class.{Class}
use Rattle.port_model.specs.declared.taken.Taken.{Taken}
use Rattle.port_model.specs.declared.taken.Taken.TheVariants.{Consumed, Discarded, Nothing}
use Rattle.port_model.specs.declared.timer.ActiveTimer.{ActiveTimer}
use Rattle.port_model.specs.declared.timer.Phase.TheVariants.{Running, Waiting}
use Rattle.port_model.specs.History.{Expire, IsLegal, PortEvent, PortStep, Put, Reset, Set, Stop, Take}
use Rattle.port_model.specs.Laws.{SpentForGood}
use Rattle.port_model.specs.Port.{PortState, expire_in, expires, is_spent, put_into, set_in}
use Rattle.port_model.specs.Take.{IsOrdinary, IsSaved, Takes, TakesFirst}
use Rattle.port_model.specs.Timers.{after_taking, is_running, same_key, same_phase, with_waiting, without_key}
use Rattle.port_model.proofs.Lists.{none_filter, none_pushed}

-- ---- tests

first_of : (a b : Bool) → (a && not b) ≡ true → a ≡ true
first_of true b is = refl
first_of false b is = is

second_of : (a b : Bool) → (a && not b) ≡ true → b ≡ false
second_of a false is = refl
second_of true true is = sym is
second_of false true is = sym is

no_left : (a b : Bool) → (a || b) ≡ false → a ≡ false
no_left true b none = none
no_left false b none = refl

no_right : (a b : Bool) → (a || b) ≡ false → b ≡ false
no_right true b none = let wrong : ⊥ = cc in absurd wrong
no_right false b none = none

no_more : (a : Bool) → (a && false) ≡ false
no_more true = refl
no_more false = refl

module _ (key : TimerKey) (arm due : ℕ) where
  abbrev runs : ActiveTimer → Bool
  runs timer = same_key timer.key key && same_phase timer.phase (Running arm due)

  record IsPast (q : PortState) : Type 0 where
    made : arm ≤ q.sets
    none : is_running key arm due q.timers ≡ false

  past_of : (q : PortState) → is_spent q key arm due ≡ true → IsPast q
  past_of q spent = record {
    made = leb-true arm q.sets (first_of (nat_le arm q.sets) (is_running key arm due q.timers) spent);
    none = second_of (nat_le arm q.sets) (is_running key arm due q.timers) spent;
  }

  spent_from : (q : PortState) → IsPast q → is_spent q key arm due ≡ true
  spent_from q past =
      let made : nat_le arm q.sets ≡ true = le-leb arm q.sets past.made in
      let none : is_running key arm due q.timers ≡ false = past.none in
      λ i. made i && not (none i)

  -- ---- what happens

  past_put : (q : PortState) (item : Item) → IsPast q → IsPast (put_into q item)
  past_put q item past = by_test q.alive where
    by_test : (b : Bool) → IsPast (if b then record q { waiting = q.waiting ++ Signal item ∷ [] } else q)
    by_test true = record { made = past.made; none = past.none }
    by_test false = past

  none_waiting : (other : TimerKey) (number : ℕ) (timers : List ActiveTimer) → is_running key arm due timers ≡ false
      → is_running key arm due (with_waiting other number timers) ≡ false
  none_waiting other number [] none = refl
  none_waiting other number (timer ∷ rest) none =
      let here : runs timer ≡ false = no_left (runs timer) (is_running key arm due rest) none in
      let later : is_running key arm due rest ≡ false = no_right (runs timer) (is_running key arm due rest) none in
      ap (λ b. b || is_running key arm due (with_waiting other number rest))
      (one_waiting here (same_key timer.key other))
      ∙ none_waiting other number rest later where
        one_waiting : runs timer ≡ false → (b : Bool)
            → runs (if b then record timer { phase = Waiting number } else timer) ≡ false
        one_waiting here true = no_more (same_key timer.key key)
        one_waiting here false = here

  past_expiry : (q : PortState) (other : TimerKey) (number time at : ℕ) → IsPast q
      → IsPast (expire_in q other number time at)
  past_expiry q other number time at past = by_test (expires q other number time at) where
    by_test : (b : Bool)
        → IsPast (if b then record q {
          waiting = q.waiting ++ Timer other ∷ [];
          timers = with_waiting other number q.timers;
        } else q)
    by_test true = record { made = past.made; none = none_waiting other number q.timers past.none }
    by_test false = past

  none_without : (other : TimerKey) (timers : List ActiveTimer) → is_running key arm due timers ≡ false
      → is_running key arm due (without_key other timers) ≡ false
  none_without other timers none = none_filter runs (λ timer. not (same_key timer.key other)) timers none

  none_taken : (got : Got) (timers : List ActiveTimer) → is_running key arm due timers ≡ false
      → is_running key arm due (after_taking got timers) ≡ false
  none_taken (Signal item) timers none = none
  none_taken (Timer other) timers none = none_without other timers none

  past_first : (Passed : Got → Type 0) (old new : PortState) (got : Got) → IsPast old → TakesFirst Passed old got new
      → IsPast new
  past_first Passed old new got past takes =
      subst IsPast (sym takes.now) (record { made = past.made; none = none_taken got old.timers past.none })

  past_take : (classes : List Class) (taken : Taken) (old new : PortState) → IsPast old
      → Takes classes old taken new → IsPast new
  past_take classes (Consumed got) old new past takes =
      ⊎_elim (λ urgent. past_first (IsOrdinary classes) old new got past urgent.0)
      (λ first. past_first (IsSaved classes) old new got past first.1) takes
  past_take classes (Discarded got) old new past takes = past_first (IsSaved classes) old new got past takes.1
  past_take classes Nothing old new past takes = subst IsPast (sym takes.1) past

  -- a later set has another number
  past_set : (q : PortState) (other : TimerKey) (time : ℕ) → IsPast q → IsPast (set_in q other time)
  past_set q other time past =
      let apart : nat_eq (q.sets + 1) arm ≡ false =
      ne_eqb (q.sets + 1) arm (λ same. let made = past.made in omega (arith, same, made)) in
      let later : runs (record { key = other; phase = Running (q.sets + 1) time }) ≡ false =
      ap (λ b. same_key other key && (b && nat_eq time due)) apart ∙ no_more (same_key other key) in
      record {
        made = let made = past.made in omega (arith, made);
        none = none_pushed runs (without_key other q.timers) (record { key = other; phase = Running (q.sets + 1) time })
            (none_without other q.timers past.none) later;
      }

  past_step : (old new : PortState) (event : PortEvent) → IsPast old → PortStep old event new → IsPast new
  past_step old new (Put item) past step = subst IsPast (sym step) (past_put old item past)
  past_step old new (Expire other number time at) past step =
      subst IsPast (sym step) (past_expiry old other number time at past)
  past_step old new (Take classes taken) past step = past_take classes taken old new past step.1
  past_step old new (Set other time number) past step = subst IsPast (sym step.2) (past_set old other time past)
  past_step old new (Reset other) past step =
      subst IsPast (sym step.1) (record { made = past.made; none = none_without other old.timers past.none })
  past_step old new Stop past step = subst IsPast (sym step.1) (record { made = past.made; none = refl })

  past_legal : (old new : PortState) (events : List PortEvent) → IsPast old → IsLegal old events new → IsPast new
  past_legal old new [] past legal = subst IsPast (sym legal) past
  past_legal old new (event ∷ events) past legal =
      past_legal legal.0 new events (past_step old legal.0 event past legal.1) legal.2

  -- ---- as a test says it

  pub spent_step : (old new : PortState) (event : PortEvent) → PortStep old event new
      → is_spent old key arm due ≡ true → is_spent new key arm due ≡ true
  spent_step old new event step spent = spent_from new (past_step old new event (past_of old spent) step)

  pub spent_legal : (old new : PortState) (events : List PortEvent) → IsLegal old events new
      → is_spent old key arm due ≡ true → is_spent new key arm due ≡ true
  spent_legal old new events legal spent = spent_from new (past_legal old new events (past_of old spent) legal)

  -- an expiry by a spent set changes nothing
  pub spent_expires : (q : PortState) (at : ℕ) → is_spent q key arm due ≡ true → expire_in q key arm due at ≡ q
  spent_expires q at spent =
      ap (λ b. if nat_le due at && b then expired else q) (past_of q spent).none ∙ by_test (nat_le due at) where
        expired : PortState
        expired = record q { waiting = q.waiting ++ Timer key ∷ []; timers = with_waiting key arm q.timers }

        by_test : (b : Bool) → (if b && false then expired else q) ≡ q
        by_test true = refl
        by_test false = refl

pub spent_for_good : SpentForGood
spent_for_good key arm due old new events legal spent = spent_legal key arm due old new events legal spent
