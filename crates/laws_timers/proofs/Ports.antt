-- The timers that run in a port, by what happens to it: a set alone makes one run, and its own expiry ends it.
use Rattle.std.proofs.Common.{◌≡◌, ◌∙◌, ◌⊎◌, ◌&&◌, ◌||◌, ◌++◌, ◌+◌, ◌≤◌, inl, inr, ap, arith, if◌then◌else◌, refl, subst, sym, ℕ, nat_eq, nat_le, not, Bool, true, false, List, [], ◌∷◌}
use Rattle.std.proofs.lemmas.List.Elements.{All-cons, All-filter, All-head, All-map, All-nil, All-push, All-tail, All-weaker}
use Rattle.port_model.specs.declared.inbox.entry.Fuse.{Fuse}
use Rattle.port_model.proofs.Keys.{same_key-Decides}
use Rattle.port_model.specs.History.{Expire, IsLegal, PortEvent, PortStep, Put, Reset, Set, Stop, Take}
use Rattle.port_model.specs.Laws.{IsFromOutside}
use Rattle.port_model.specs.Port.{PortState, expire_in, put_into, set_in}
use Rattle.port_model.specs.Take.{Takes, TakesFirst}
use Rattle.port_model.specs.Timers.{after_taking, is_running, same_key, same_phase, waiting_timer, with_waiting, without_key}
use Rattle.port_model.specs.declared.got.Got.{Got}
use Rattle.port_model.specs.declared.got.Got.TheVariants.{Signal, Timer}
use Rattle.port_model.specs.declared.values.item.Item.{Item}
use Rattle.port_model.specs.declared.selection.Class.{Class}
use Rattle.port_model.specs.declared.taken.Taken.{Taken}
use Rattle.port_model.specs.declared.taken.Taken.TheVariants.{Consumed, Discarded, Nothing}
use Rattle.port_model.specs.declared.timer.ActiveTimer.{ActiveTimer}
use Rattle.port_model.specs.declared.timer.Phase.{Phase}
use Rattle.port_model.specs.declared.timer.Phase.TheVariants.{Running, Waiting}
use Rattle.port_model.specs.declared.values.timer_key.TimerKey.{TimerKey}
use Rattle.laws_timers.proofs.Numbers.{eq_is}
use Rattle.laws_timers.specs.Fused.{AreFused, IsOfFuse}

-- what is so of the fuse of one timer, as a predicate on it
abbrev IsFused : (Fuse → Type 0) → ℕ → ActiveTimer → Type 0
IsFused Holds pid timer = IsOfFuse Holds pid timer.key timer.phase

module _ (A B : Fuse → Type 0) (pid : ℕ) (more : (fuse : Fuse) → fuse.pid ≡ pid → A fuse → B fuse) where
  phase_more : (key : TimerKey) (phase : Phase) → IsOfFuse A pid key phase → IsOfFuse B pid key phase
  phase_more key (Running arm due) is = more (record { pid = pid; key = key; arm = arm; due = due }) refl is
  phase_more key (Waiting arm) is = tt

  pub fused_more : (timers : List ActiveTimer) → AreFused A pid timers → AreFused B pid timers
  fused_more timers are =
      All-weaker (IsFused A pid) (IsFused B pid) (λ timer is. phase_more timer.key timer.phase is) timers are

-- ---- what happens

module _ (A : Fuse → Type 0) (pid : ℕ) where
  fused_without : (key : TimerKey) (timers : List ActiveTimer) → AreFused A pid timers
      → AreFused A pid (without_key key timers)
  fused_without key timers are = All-filter (λ timer. not (same_key timer.key key)) (IsFused A pid) timers are

  fused_put : (q : PortState) (item : Item) → AreFused A pid q.timers → AreFused A pid (put_into q item).timers
  fused_put q item are = by_test q.alive where
    by_test : (b : Bool)
        → AreFused A pid (if b then record q { waiting = q.waiting ++ Signal item ∷ [] } else q).timers
    by_test true = are
    by_test false = are

  fused_take : (q r : PortState) (got : Got) → AreFused A pid q.timers
      → AreFused A pid (after_taking got q.timers)
  fused_take q r (Signal item) are = are
  fused_take q r (Timer key) are = fused_without key q.timers are

  module _ (q r : PortState) (are : AreFused A pid q.timers) where
    fused_first : (Passed : Got → Type 0) (got : Got) → TakesFirst Passed q got r → AreFused A pid r.timers
    fused_first Passed got takes =
        subst (λ (p : PortState). AreFused A pid p.timers) (sym takes.now) (fused_take q r got are)

    fused_taken : (classes : List Class) (taken : Taken) → Takes classes q taken r → AreFused A pid r.timers
    fused_taken classes (Consumed got) takes =
        elim takes [
          | inl w ↦ fused_first _ got w.0
          | inr w ↦ fused_first _ got w.1
        ]
    fused_taken classes (Discarded got) takes = fused_first _ got takes.1
    fused_taken classes Nothing takes = subst (λ (p : PortState). AreFused A pid p.timers) (sym takes.1) are

-- ---- an expiry

module _ (A B : Fuse → Type 0) (pid : ℕ) (key : TimerKey)
    (others : (fuse : Fuse) → (fuse.key ≡ key → ⊥) → A fuse → B fuse) where
  other_phase : (other : TimerKey) (phase : Phase) → (other ≡ key → ⊥) → IsOfFuse A pid other phase
      → IsOfFuse B pid other phase
  other_phase other (Running arm due) apart is =
      others (record { pid = pid; key = other; arm = arm; due = due }) apart is
  other_phase other (Waiting arm) apart is = tt

  waits_now : (arm : ℕ) (timer : ActiveTimer) (b : Bool) → same_key timer.key key ≡ b → IsFused A pid timer
      → IsFused B pid (if b then record timer { phase = Waiting arm } else timer)
  waits_now arm timer true same is = tt
  waits_now arm timer false other is =
      other_phase timer.key timer.phase
      (λ same.
      let wrong : true ≡ false = sym ((same_key-Decides timer.key key).1 same) ∙ other in
      absurd cc) is

  -- the timer of the key waits, and so it doesn't run
  fused_waiting : (arm : ℕ) (timers : List ActiveTimer) → AreFused A pid timers
      → AreFused B pid (with_waiting key arm timers)
  fused_waiting arm timers are =
      All-map (IsFused B pid) (waiting_timer key arm) timers
      (All-weaker (IsFused A pid) (λ timer. IsFused B pid (waiting_timer key arm timer))
      (λ timer is. waits_now arm timer (same_key timer.key key) refl is) timers are)

no_left : (a b : Bool) → (a || b) ≡ false → a ≡ false
no_left true b none = none
no_left false b none = refl

no_right : (a b : Bool) → (a || b) ≡ false → b ≡ false
no_right true b none = let wrong : ⊥ = cc in absurd wrong
no_right false b none = none

both : (a b : Bool) → a ≡ true → b ≡ true → (a && b) ≡ true
both a b first second = ap (λ x. x && b) first ∙ second

-- this is the fuse, or one of which it is so
abbrev pub IsItOr : (Fuse → Type 0) → Fuse → Fuse → Type 0
IsItOr Q fuse other = (other ≡ fuse) ⊎ Q other

-- the fuse expires, and no timer runs by it any more
module _ (Q : Fuse → Type 0) (pid : ℕ) (fuse : Fuse) where
  not_it : (other : Fuse) → (other.key ≡ fuse.key → ⊥) → IsItOr Q fuse other → Q other
  not_it other apart (inl same) = absurd (apart (ap (λ (f : Fuse). f.key) same))
  not_it other apart (inr is) = is

  runs_not : (key : TimerKey) (phase : Phase)
      → (same_key key fuse.key && same_phase phase (Running fuse.arm fuse.due)) ≡ false
      → IsOfFuse (IsItOr Q fuse) pid key phase → IsOfFuse Q pid key phase
  runs_not key (Waiting arm) none is = tt
  runs_not key (Running arm due) none (inr is) = is
  runs_not key (Running arm due) none (inl same) =
      let keys : same_key key fuse.key ≡ true =
      (same_key-Decides key fuse.key).1 (ap (λ (f : Fuse). f.key) same) in
      let arms : nat_eq arm fuse.arm ≡ true = eq_is arm fuse.arm (ap (λ (f : Fuse). f.arm) same) in
      let dues : nat_eq due fuse.due ≡ true = eq_is due fuse.due (ap (λ (f : Fuse). f.due) same) in
      let runs : (same_key key fuse.key && (nat_eq arm fuse.arm && nat_eq due fuse.due)) ≡ true =
      both (same_key key fuse.key) (nat_eq arm fuse.arm && nat_eq due fuse.due) keys
      (both (nat_eq arm fuse.arm) (nat_eq due fuse.due) arms dues) in
      let wrong : true ≡ false = sym runs ∙ none in
      absurd cc

  none_runs : (timers : List ActiveTimer) → is_running fuse.key fuse.arm fuse.due timers ≡ false
      → AreFused (IsItOr Q fuse) pid timers → AreFused Q pid timers
  none_runs [] none are = All-nil (IsFused Q pid)
  none_runs (timer ∷ rest) none are =
      let here : Bool = same_key timer.key fuse.key && same_phase timer.phase (Running fuse.arm fuse.due) in
      let there : Bool = is_running fuse.key fuse.arm fuse.due rest in
      All-cons (IsFused Q pid) timer rest
      (runs_not timer.key timer.phase (no_left here there none)
      (All-head (IsFused (IsItOr Q fuse) pid) timer rest are))
      (none_runs rest (no_right here there none) (All-tail (IsFused (IsItOr Q fuse) pid) timer rest are))

  pub fused_expired : (q : PortState) (at : ℕ) → fuse.due ≤ at → AreFused (IsItOr Q fuse) pid q.timers
      → AreFused Q pid (expire_in q fuse.key fuse.arm fuse.due at).timers
  fused_expired q at due are =
      by_test (nat_le fuse.due at) (is_running fuse.key fuse.arm fuse.due q.timers) (grind (arith, due)) refl where
        by_test : (a b : Bool) → a ≡ true → is_running fuse.key fuse.arm fuse.due q.timers ≡ b
            → AreFused Q pid (if a && b then record q {
              waiting = q.waiting ++ Timer fuse.key ∷ [];
              timers = with_waiting fuse.key fuse.arm q.timers;
            } else q).timers
        by_test true true has_come runs = fused_waiting (IsItOr Q fuse) Q pid fuse.key not_it fuse.arm q.timers are
        by_test true false has_come none = none_runs q.timers none are
        by_test false b has_come runs = let wrong : ⊥ = cc in absurd wrong

-- ---- several events

-- this is so of the fuse of each set
abbrev pub AreSetsOf : (Fuse → Type 0) → ℕ → List PortEvent → Type 0
AreSetsOf Holds pid [] = Unit {0}
AreSetsOf Holds pid (Set key due arm ∷ rest) =
    Holds (record { pid = pid; key = key; arm = arm; due = due }) × AreSetsOf Holds pid rest
AreSetsOf Holds pid (event ∷ rest) = AreSetsOf Holds pid rest

-- what comes from outside sets no timer
pub heard_sets : (A : Fuse → Type 0) (pid : ℕ) (heard : PortEvent) → IsFromOutside heard
    → AreSetsOf A pid (heard ∷ [])
heard_sets A pid (Put item) outside = tt
heard_sets A pid (Expire key arm due at) outside = tt
heard_sets A pid heard outside = absurd outside

pub sets_more : (A B : Fuse → Type 0) (pid : ℕ) → ((fuse : Fuse) → A fuse → B fuse) → (calls : List PortEvent)
    → AreSetsOf A pid calls → AreSetsOf B pid calls
sets_more A B pid more [] sets = tt
sets_more A B pid more (Put item ∷ rest) sets = sets_more A B pid more rest sets
sets_more A B pid more (Expire key arm due at ∷ rest) sets = sets_more A B pid more rest sets
sets_more A B pid more (Take classes got ∷ rest) sets = sets_more A B pid more rest sets
sets_more A B pid more (Set key due arm ∷ rest) sets =
    (more (record { pid = pid; key = key; arm = arm; due = due }) sets.0, sets_more A B pid more rest sets.1)
sets_more A B pid more (Reset key ∷ rest) sets = sets_more A B pid more rest sets
sets_more A B pid more (Stop ∷ rest) sets = sets_more A B pid more rest sets

module _ (A : Fuse → Type 0) (pid : ℕ) where
  -- any other expiry
  pub fused_expire : (q : PortState) (key : TimerKey) (arm due at : ℕ) → AreFused A pid q.timers
      → AreFused A pid (expire_in q key arm due at).timers
  fused_expire q key arm due at are = by_test (nat_le due at && is_running key arm due q.timers) where
    by_test : (b : Bool)
        → AreFused A pid (if b then record q {
          waiting = q.waiting ++ Timer key ∷ [];
          timers = with_waiting key arm q.timers;
        } else q).timers
    by_test true = fused_waiting A A pid key (λ fuse apart is. is) arm q.timers are
    by_test false = are

  fused_set : (q : PortState) (key : TimerKey) (due arm : ℕ) → arm ≡ q.sets + 1
      → A (record { pid = pid; key = key; arm = arm; due = due }) → AreFused A pid q.timers
      → AreFused A pid (set_in q key due).timers
  fused_set q key due arm next is are =
      All-push (IsFused A pid) (without_key key q.timers) (record { key = key; phase = Running (q.sets + 1) due })
      (fused_without A pid key q.timers are)
      (subst (λ k. A (record { pid = pid; key = key; arm = k; due = due })) next is)

  pub fused_step : (q r : PortState) (event : PortEvent) → PortStep q event r → AreSetsOf A pid (event ∷ [])
      → AreFused A pid q.timers → AreFused A pid r.timers
  fused_step q r (Put item) step sets are =
      subst (λ (p : PortState). AreFused A pid p.timers) (sym step) (fused_put A pid q item are)
  fused_step q r (Expire key arm due at) step sets are =
      subst (λ (p : PortState). AreFused A pid p.timers) (sym step) (fused_expire q key arm due at are)
  fused_step q r (Take classes taken) step sets are = fused_taken A pid q r are classes taken step.1
  fused_step q r (Set key due arm) step sets are =
      subst (λ (p : PortState). AreFused A pid p.timers) (sym step.2)
      (fused_set q key due arm step.1 sets.0 are)
  fused_step q r (Reset key) step sets are =
      subst (λ (p : PortState). AreFused A pid p.timers) (sym step.1) (fused_without A pid key q.timers are)
  fused_step q r Stop step sets are =
      subst (λ (p : PortState). AreFused A pid p.timers) (sym step.1) (All-nil (IsFused A pid))

  sets_first : (event : PortEvent) (rest : List PortEvent) → AreSetsOf A pid (event ∷ rest)
      → AreSetsOf A pid (event ∷ []) × AreSetsOf A pid rest
  sets_first (Put item) rest sets = (tt, sets)
  sets_first (Expire key arm due at) rest sets = (tt, sets)
  sets_first (Take classes taken) rest sets = (tt, sets)
  sets_first (Set key due arm) rest sets = ((sets.0, tt), sets.1)
  sets_first (Reset key) rest sets = (tt, sets)
  sets_first Stop rest sets = (tt, sets)

  pub fused_legal : (calls : List PortEvent) (q r : PortState) → IsLegal q calls r → AreSetsOf A pid calls
      → AreFused A pid q.timers → AreFused A pid r.timers
  fused_legal [] q r same sets are = subst (λ (p : PortState). AreFused A pid p.timers) (sym same) are
  fused_legal (event ∷ rest) q r legal sets are =
      let parts = sets_first event rest sets in
      fused_legal rest legal.0 r legal.2 parts.1 (fused_step q legal.0 event legal.1 parts.0 are)

  pub fused_put_in : (q : PortState) (item : Item) → AreFused A pid q.timers → AreFused A pid (put_into q item).timers
  fused_put_in q item are = fused_put A pid q item are
