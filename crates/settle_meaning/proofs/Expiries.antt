-- In a legal history a timer runs only by a set, and so each expiry that does something is of a set before it.
use Rattle.std.proofs.Common.{◌≡◌, ◌∙◌, ◌⊎◌, ◌&&◌, ◌||◌, ◌++◌, ◌+◌, inl, inr, ap, append_assoc, arith, if◌then◌else◌, refl, subst, sym, ℕ, nat_eq, nat_le, not, Bool, true, false, List, [], ◌∷◌}
use Rattle.std.specs.Prelude.{All, Contains}
use Rattle.std.proofs.lemmas.List.Elements.{All-filter, All-head, All-map, All-nil, All-push, All-tail, All-weaker, Contains-append_left, Contains-push}
use Rattle.port_model.proofs.Keys.{same_key-Decides}
use Rattle.port_model.specs.History.{Expire, IsLegal, PortEvent, PortStep, Put, Reset, Set, Stop, Take}
use Rattle.port_model.specs.Port.{PortState, empty_port, expire_in, put_into}
use Rattle.port_model.specs.Take.{Takes, TakesFirst}
use Rattle.port_model.specs.Timers.{after_taking, is_running, same_key, same_phase, waiting_timer, with_waiting, without_key}
use Rattle.port_model.specs.declared.got.Got.{Got}
use Rattle.port_model.specs.declared.got.Got.TheVariants.{Signal, Timer}
use Rattle.port_model.specs.declared.selection.Class.{Class}
use Rattle.port_model.specs.declared.taken.Taken.{Taken}
use Rattle.port_model.specs.declared.taken.Taken.TheVariants.{Consumed, Discarded, Nothing}
use Rattle.port_model.specs.declared.timer.ActiveTimer.{ActiveTimer}
use Rattle.port_model.specs.declared.timer.Phase.{Phase}
use Rattle.port_model.specs.declared.timer.Phase.TheVariants.{Running, Waiting}
use Rattle.port_model.specs.declared.values.item.Item.{Item}
use Rattle.port_model.specs.declared.values.timer_key.TimerKey.{TimerKey}
use Rattle.settle_meaning.specs.MeaningLaws.{ExpiriesHaveSets}

-- the timer runs by a set that was made
abbrev WasSet : List PortEvent → TimerKey → Phase → Type 0
WasSet history key (Running arm due) = Contains history (Set key due arm)
WasSet history key (Waiting arm) = Unit {0}

abbrev IsSet : List PortEvent → ActiveTimer → Type 0
IsSet history timer = WasSet history timer.key timer.phase

-- so do all timers
abbrev AreSet : List PortEvent → List ActiveTimer → Type 0
AreSet history timers = All (IsSet history) timers

phase_more : (history more : List PortEvent) (key : TimerKey) (phase : Phase) → WasSet history key phase
    → WasSet (history ++ more) key phase
phase_more history more key (Running arm due) was = Contains-append_left history more (Set key due arm) was
phase_more history more key (Waiting arm) was = tt

are_more : (history more : List PortEvent) (timers : List ActiveTimer) → AreSet history timers
    → AreSet (history ++ more) timers
are_more history more timers are =
    All-weaker (IsSet history) (IsSet (history ++ more)) (λ timer is. phase_more history more timer.key timer.phase is)
    timers are

-- ---- one event

module _ (h : List PortEvent) where
  are_without : (key : TimerKey) (timers : List ActiveTimer) → AreSet h timers → AreSet h (without_key key timers)
  are_without key timers are = All-filter (λ timer. not (same_key timer.key key)) (IsSet h) timers are

  are_put : (q : PortState) (item : Item) → AreSet h q.timers → AreSet h (put_into q item).timers
  are_put q item are = by_test q.alive where
    by_test : (b : Bool) → AreSet h (if b then record q { waiting = q.waiting ++ Signal item ∷ [] } else q).timers
    by_test true = are
    by_test false = are

  are_after : (got : Got) (timers : List ActiveTimer) → AreSet h timers → AreSet h (after_taking got timers)
  are_after (Signal item) timers are = are
  are_after (Timer key) timers are = are_without key timers are

  are_first : (q r : PortState) (Passed : Got → Type 0) (got : Got) → AreSet h q.timers → TakesFirst Passed q got r
      → AreSet h r.timers
  are_first q r Passed got are takes =
      subst (λ (p : PortState). AreSet h p.timers) (sym takes.now) (are_after got q.timers are)

  are_taken : (q r : PortState) (classes : List Class) (taken : Taken) → AreSet h q.timers → Takes classes q taken r
      → AreSet h r.timers
  are_taken q r classes (Consumed got) are takes =
      elim takes [
        | inl w ↦ are_first q r _ got are w.0
        | inr w ↦ are_first q r _ got are w.1
      ]
  are_taken q r classes (Discarded got) are takes = are_first q r _ got are takes.1
  are_taken q r classes Nothing are takes = subst (λ (p : PortState). AreSet h p.timers) (sym takes.1) are

  waits_now : (key : TimerKey) (arm : ℕ) (timer : ActiveTimer) (b : Bool) → IsSet h timer
      → IsSet h (if b then record timer { phase = Waiting arm } else timer)
  waits_now key arm timer true is = tt
  waits_now key arm timer false is = is

  are_waiting : (key : TimerKey) (arm : ℕ) (timers : List ActiveTimer) → AreSet h timers
      → AreSet h (with_waiting key arm timers)
  are_waiting key arm timers are =
      All-map (IsSet h) (waiting_timer key arm) timers
      (All-weaker (IsSet h) (λ timer. IsSet h (waiting_timer key arm timer))
      (λ timer is. waits_now key arm timer (same_key timer.key key) is) timers are)

  are_expired : (q : PortState) (key : TimerKey) (arm due at : ℕ) → AreSet h q.timers
      → AreSet h (expire_in q key arm due at).timers
  are_expired q key arm due at are = by_test (nat_le due at && is_running key arm due q.timers) where
    by_test : (b : Bool) → AreSet h (if b then record q {
      waiting = q.waiting ++ Timer key ∷ [];
      timers = with_waiting key arm q.timers;
    } else q).timers
    by_test true = are_waiting key arm q.timers are
    by_test false = are

-- behind an event the timers that run are set by the history with it
step_set : (h : List PortEvent) (q r : PortState) (event : PortEvent) → PortStep q event r → AreSet h q.timers
    → AreSet (h ++ event ∷ []) r.timers
step_set h q r (Put item) step are =
    subst (λ (p : PortState). AreSet (h ++ Put item ∷ []) p.timers) (sym step)
    (are_put (h ++ Put item ∷ []) q item (are_more h (Put item ∷ []) q.timers are))
step_set h q r (Expire key arm due at) step are =
    subst (λ (p : PortState). AreSet (h ++ Expire key arm due at ∷ []) p.timers) (sym step)
    (are_expired (h ++ Expire key arm due at ∷ []) q key arm due at
    (are_more h (Expire key arm due at ∷ []) q.timers are))
step_set h q r (Take classes taken) step are =
    are_taken (h ++ Take classes taken ∷ []) q r classes taken (are_more h (Take classes taken ∷ []) q.timers are) step.1
step_set h q r (Set key due arm) step are =
    let now : List PortEvent = h ++ Set key due arm ∷ [] in
    subst (λ (p : PortState). AreSet now p.timers) (sym step.2)
    (All-push (IsSet now) (without_key key q.timers) (record { key = key; phase = Running (q.sets + 1) due })
    (are_without now key q.timers (are_more h (Set key due arm ∷ []) q.timers are))
    (subst (λ k. Contains now (Set key due k)) step.1 (Contains-push h (Set key due arm))))
step_set h q r (Reset key) step are =
    subst (λ (p : PortState). AreSet (h ++ Reset key ∷ []) p.timers) (sym step.1)
    (are_without (h ++ Reset key ∷ []) key q.timers (are_more h (Reset key ∷ []) q.timers are))
step_set h q r Stop step are =
    subst (λ (p : PortState). AreSet (h ++ Stop ∷ []) p.timers) (sym step.1) (All-nil (IsSet (h ++ Stop ∷ [])))

legal_set : (h events : List PortEvent) (q r : PortState) → IsLegal q events r → AreSet h q.timers
    → AreSet (h ++ events) r.timers
legal_set h [] q r same are =
    subst (λ (p : PortState). AreSet (h ++ []) p.timers) (sym same) (are_more h [] q.timers are)
legal_set h (event ∷ rest) q r legal are =
    subst (λ (list : List PortEvent). AreSet list r.timers) (append_assoc h (event ∷ []) rest)
    (legal_set (h ++ event ∷ []) rest legal.0 r legal.2 (step_set h q legal.0 event legal.1 are))

-- ---- an expiry

eq_of : (m n : ℕ) → nat_eq m n ≡ true → m ≡ n
eq_of m n same = grind (arith, same)

-- this timer runs, and so it was set
runs_set : (h : List PortEvent) (key : TimerKey) (arm due : ℕ) (timer : ActiveTimer)
    → (same_key timer.key key && same_phase timer.phase (Running arm due)) ≡ true → IsSet h timer
    → Contains h (Set key due arm)
runs_set h key arm due timer runs is = by_phase timer.phase refl is where
  keys : (a b : Bool) → (a && b) ≡ true → (a ≡ true) × (b ≡ true)
  keys true b both = (refl, both)
  keys false b both = let wrong : ⊥ = cc in absurd wrong

  same : timer.key ≡ key
  same = (same_key-Decides timer.key key).0 (keys (same_key timer.key key) (same_phase timer.phase (Running arm due)) runs).0

  phases : same_phase timer.phase (Running arm due) ≡ true
  phases = (keys (same_key timer.key key) (same_phase timer.phase (Running arm due)) runs).1

  by_phase : (phase : Phase) → timer.phase ≡ phase → WasSet h timer.key phase → Contains h (Set key due arm)
  by_phase (Running a d) phase was =
      let both : (nat_eq a arm && nat_eq d due) ≡ true =
      ap (λ p. same_phase p (Running arm due)) (sym phase) ∙ phases in
      let arms : a ≡ arm = eq_of a arm (keys (nat_eq a arm) (nat_eq d due) both).0 in
      let dues : d ≡ due = eq_of d due (keys (nat_eq a arm) (nat_eq d due) both).1 in
      subst (λ event. Contains h event) (ap (λ k. Set k d a) same ∙ ap (λ t. Set key t a) dues ∙ ap (λ n. Set key due n) arms)
      was
  by_phase (Waiting a) phase was =
      let wrong : true ≡ false = sym phases ∙ ap (λ p. same_phase p (Running arm due)) phase in
      absurd cc

one_or_more : (h : List PortEvent) (key : TimerKey) (arm due : ℕ) (timer : ActiveTimer) (rest : List ActiveTimer)
    → IsSet h timer → (is_running key arm due rest ≡ true → Contains h (Set key due arm)) → (b : Bool)
    → (same_key timer.key key && same_phase timer.phase (Running arm due)) ≡ b
    → (b || is_running key arm due rest) ≡ true → Contains h (Set key due arm)
one_or_more h key arm due timer rest is more true here either = runs_set h key arm due timer here is
one_or_more h key arm due timer rest is more false here either = more either

some_runs : (h : List PortEvent) (key : TimerKey) (arm due : ℕ) (timers : List ActiveTimer) → AreSet h timers
    → is_running key arm due timers ≡ true → Contains h (Set key due arm)
some_runs h key arm due [] are runs = let wrong : ⊥ = cc in absurd wrong
some_runs h key arm due (timer ∷ rest) are runs =
    one_or_more h key arm due timer rest (All-head (IsSet h) timer rest are)
    (λ more. some_runs h key arm due rest (All-tail (IsSet h) timer rest are) more)
    (same_key timer.key key && same_phase timer.phase (Running arm due)) refl runs

set_or_same : (h : List PortEvent) (q : PortState) (key : TimerKey) (arm due at : ℕ) → AreSet h q.timers
    → Contains h (Set key due arm) ⊎ (expire_in q key arm due at ≡ q)
set_or_same h q key arm due at are = by_test (nat_le due at) (is_running key arm due q.timers) refl where
  by_test : (a b : Bool) → is_running key arm due q.timers ≡ b
      → Contains h (Set key due arm) ⊎ ((if a && b then record q {
        waiting = q.waiting ++ Timer key ∷ [];
        timers = with_waiting key arm q.timers;
      } else q) ≡ q)
  by_test true true runs = inl (some_runs h key arm due q.timers are runs)
  by_test true false runs = inr refl
  by_test false b runs = inr refl

pub expiries_have_sets : ExpiriesHaveSets
expiries_have_sets history port legal before later key arm due at mid is until =
    set_or_same before mid key arm due at (legal_set [] before empty_port mid until (All-nil (IsSet [])))
