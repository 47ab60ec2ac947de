-- No expiry is before its due time: the clock is never more than one tick behind what is to be done.
use Rattle.std.proofs.Common.{◌≡◌, ◌∙◌, ◌+◌, ◌++◌, ◌&&◌, ◌≤◌, ◌==◌, ap, arith, if◌then◌else◌, refl, subst, sym, ℕ, Bool, true, false, List, [], ◌∷◌, nat_le}
use Rattle.port_model.specs.declared.inbox.entry.Fuse.{Fuse}
use Rattle.port_model.specs.History.{Expire, PortEvent, Put, Reset, Set, Stop, Take}
use Rattle.port_model.specs.declared.values.item.Item.{Item}
use Rattle.serial_order.specs.Execution.{Execution, Expired, Follows, Happening, Heard, Moved, Steps, Ticked, begins, goes}
use Rattle.serial_order.specs.RunState.{RunState, after_effect, after_effects, beginning, change_at, with_expiry, with_instance}
use Rattle.serial_order.specs.Told.{Moment, comes_by, comes_by_one, expiry_by, first_moment, given_after_one, history_from, history_of_one, is_there, moment_after, put_by}
use Rattle.run_record.specs.declared.evaluation.identity.Identity.{Identity}
use Rattle.laws_timers.specs.Fused.{AreDue, AreInTime, ExpiriesAreDue, HistoriesAreInTime, IsDue}
use Rattle.run_semantics.specs.Effect.{Effect, Arm, Create, Deed, Send, effects_of, calls_of}
use Rattle.run_semantics.specs.Runs.{own_of}
use Rattle.sdl_script.specs.declared.script.ScriptLine.{ScriptLine}
use Rattle.sdl_system.specs.Behaviour.{Behaviour}
use Rattle.sdl_system.specs.System.{SystemValue}
use Rattle.sdl_system.specs.declared.route.Target.{Target}
use Rattle.sdl_system.specs.declared.route.Target.TheVariants.{Env, Instance, Nobody, Null}
use Rattle.sdl_timers.specs.DueOrder.{with_fuse}

-- ---- the clock of the whole

-- the clock shows the same, and the same is to be done
record IsSameTime (g h : RunState) : Type 0 where
  clock : h.clock ≡ g.clock
  until : h.until ≡ g.until

effect_time : (g : RunState) (effect : Effect) → IsSameTime g (after_effect g effect)
effect_time g (Send (Instance number) item) = record { clock = refl; until = refl }
effect_time g (Send Env item) = record { clock = refl; until = refl }
effect_time g (Send Null item) = record { clock = refl; until = refl }
effect_time g (Send Nobody item) = record { clock = refl; until = refl }
effect_time g (Arm fuse) =
    by_test (nat_le fuse.due g.clock)
    (record g { instances = change_at (with_expiry fuse g.clock) g.instances fuse.pid })
    (record g { fuses = with_fuse fuse g.fuses }) (record { clock = refl; until = refl })
    (record { clock = refl; until = refl }) where
      by_test : (b : Bool) (now later : RunState) → IsSameTime g now → IsSameTime g later
          → IsSameTime g (if b then now else later)
      by_test true now later first second = first
      by_test false now later first second = second
effect_time g (Create id number parent values) = record { clock = refl; until = refl }

effects_time : (g : RunState) (done : List Effect) → IsSameTime g (after_effects g done)
effects_time g [] = record { clock = refl; until = refl }
effects_time g (effect ∷ rest) =
    let one : IsSameTime g (after_effect g effect) = effect_time g effect in
    let more : IsSameTime (after_effect g effect) (after_effects (after_effect g effect) rest) = effects_time (after_effect g effect) rest in
    record { clock = more.clock ∙ one.clock; until = more.until ∙ one.until }

-- what is due before `until` is due by the clock's time
abbrev pub IsPaced : RunState → Type 0
IsPaced g = g.until ≤ g.clock + 1

paced_as : (g h : RunState) → IsSameTime g h → IsPaced g → IsPaced h
paced_as g h same paced = omega (arith, same.clock, same.until, paced)

module _ (ps : List Behaviour) (last : ℕ) where
  step_time : (g : RunState) (who : Identity) (deeds : List Deed) (h : RunState) → Steps ps g who deeds h → IsSameTime g h
  step_time g who deeds h step =
      let stepped : RunState = record g {
        instances = with_instance g.instances who.pid step.new;
        turn = who.pid;
        bound = step.bound;
      } in
      let same : IsSameTime stepped (after_effects stepped (effects_of deeds)) = effects_time stepped (effects_of deeds) in
      subst (λ (h : RunState). IsSameTime g h) (sym step.now) (record { clock = same.clock; until = same.until })

  paced_on : (g : RunState) (next : Happening) (h : RunState) → Follows ps last g next h → IsPaced g → IsPaced h
  paced_on g (Moved who deeds) h step paced = paced_as g h (step_time g who deeds h step) paced
  paced_on g (Expired fuse) h expires paced = subst (λ (h : RunState). IsPaced h) (sym expires.now) paced
  paced_on g (Heard line done) h hear paced =
      let before : RunState = record g { script = hear.later } in
      subst (λ (h : RunState). IsPaced h) (sym hear.now)
      (paced_as before (after_effects before done) (effects_time before done) paced)
  paced_on g (Ticked time) h tick paced = subst (λ (h : RunState). IsPaced h) (sym tick.now) (omega arith)

  -- the clock is as it is told
  clock_on : (g : RunState) (next : Happening) (h : RunState) (now : Moment) → Follows ps last g next h
      → g.clock ≡ now.clock → h.clock ≡ (moment_after now next).clock
  clock_on g (Moved who deeds) h now step same = (step_time g who deeds h step).clock ∙ same
  clock_on g (Expired fuse) h now expires same = ap (λ (g : RunState). g.clock) expires.now ∙ same
  clock_on g (Heard line done) h now hear same =
      ap (λ (g : RunState). g.clock) hear.now ∙ (effects_time (record g { script = hear.later }) done).clock ∙ same
  clock_on g (Ticked time) h now tick same = ap (λ (g : RunState). g.clock) tick.now

-- ---- what happens to a port

in_time_append : (first later : List PortEvent) → AreInTime first → AreInTime later → AreInTime (first ++ later)
in_time_append [] later are more = more
in_time_append (Put item ∷ rest) later are more = in_time_append rest later are more
in_time_append (Expire key arm due at ∷ rest) later are more = (are.0, in_time_append rest later are.1 more)
in_time_append (Take classes taken ∷ rest) later are more = in_time_append rest later are more
in_time_append (Set key due arm ∷ rest) later are more = in_time_append rest later are more
in_time_append (Reset key ∷ rest) later are more = in_time_append rest later are more
in_time_append (Stop ∷ rest) later are more = in_time_append rest later are more

-- an owner's calls are no expiries
own_in_time : (history : List PortEvent) → AreInTime (own_of history)
own_in_time [] = tt
own_in_time (Put item ∷ rest) = own_in_time rest
own_in_time (Expire key arm due at ∷ rest) = own_in_time rest
own_in_time (Take classes taken ∷ rest) = own_in_time rest
own_in_time (Set key due arm ∷ rest) = own_in_time rest
own_in_time (Reset key ∷ rest) = own_in_time rest
own_in_time (Stop ∷ rest) = own_in_time rest

in_time_if : (b : Bool) (events : List PortEvent) → AreInTime events → AreInTime (if b then events else [])
in_time_if true events are = are
in_time_if false events are = tt

put_in_time : (n : ℕ) (target : Target) (item : Item) → AreInTime (put_by n target item)
put_in_time n (Instance number) item = in_time_if (number == n) (Put item ∷ []) tt
put_in_time n Env item = tt
put_in_time n Null item = tt
put_in_time n Nobody item = tt

expiry_in_time : (n at : ℕ) (fuse : Fuse) → fuse.due ≤ at → AreInTime (expiry_by n at fuse)
expiry_in_time n at fuse due =
    in_time_if (fuse.pid == n) (Expire fuse.key fuse.arm fuse.due at ∷ []) (due, tt)

-- a timer whose time has come as it is set
arm_in_time : (n : ℕ) (now : Moment) (fuse : Fuse) (there b : Bool) → nat_le fuse.due now.clock ≡ b
    → AreInTime (if there && b then expiry_by n now.clock fuse else [])
arm_in_time n now fuse true true has_come = expiry_in_time n now.clock fuse (grind (arith, has_come))
arm_in_time n now fuse true false later = tt
arm_in_time n now fuse false b has_come = tt

comes_in_time : (n : ℕ) (now : Moment) (done : List Effect) → AreInTime (comes_by n now done)
comes_in_time n now [] = tt
comes_in_time n now (effect ∷ rest) =
    in_time_append (comes_by_one n now effect) (comes_by n (record now { given = given_after_one now.given effect }) rest)
    (by_effect effect) (comes_in_time n (record now { given = given_after_one now.given effect }) rest) where
      by_effect : (effect : Effect) → AreInTime (comes_by_one n now effect)
      by_effect (Send target item) =
          in_time_if (is_there n now) (put_by n target item) (put_in_time n target item)
      by_effect (Arm fuse) = arm_in_time n now fuse (is_there n now) (nat_le fuse.due now.clock) refl
      by_effect (Create process number parent values) = tt

-- ---- one happening

-- it is in time, in the history of each port and as an expiry of its own
record IsKept (now : Moment) (next : Happening) : Type 0 where
  due : IsDue now next
  port : (n : ℕ) → AreInTime (history_of_one n now next)

module _ (ps : List Behaviour) (last : ℕ) where
  calls_in_time : (g : RunState) (who : Identity) (deeds : List Deed) (h : RunState) → Steps ps g who deeds h
      → AreInTime (calls_of deeds)
  calls_in_time g who deeds h step =
      subst (λ (list : List Deed). AreInTime (calls_of list)) step.deeds_are
      (subst (λ (calls : List PortEvent). AreInTime calls) step.goes.own (own_in_time step.goes.history))

  kept_one : (g : RunState) (next : Happening) (h : RunState) (now : Moment) → Follows ps last g next h → IsPaced g
      → g.clock ≡ now.clock → IsKept now next
  kept_one g (Moved who deeds) h now step paced same = record {
    due = tt;
    port = λ n.
        in_time_append (if who.pid == n then calls_of deeds else []) (comes_by n now (effects_of deeds))
        (in_time_if (who.pid == n) (calls_of deeds) (calls_in_time g who deeds h step))
        (comes_in_time n now (effects_of deeds));
  }
  kept_one g (Expired fuse) h now expires paced same =
      let by_now : fuse.due ≤ now.clock = omega (arith, expires.due, paced, same) in
      record {
        due = by_now;
        port = λ n.
            in_time_if (is_there n now) (expiry_by n now.clock fuse) (expiry_in_time n now.clock fuse by_now);
      }
  kept_one g (Heard line done) h now hear paced same = record { due = tt; port = λ n. comes_in_time n now done }
  kept_one g (Ticked time) h now tick paced same = record { due = tt; port = λ n. tt }

-- ---- all that happened

abbrev AreKept : Moment → List Happening → Type 0
AreKept now [] = Unit {0}
AreKept now (first ∷ rest) = IsKept now first × AreKept (moment_after now first) rest

-- the moment behind all that happened
abbrev pub moment_from : Moment → List Happening → Moment
moment_from now [] = now
moment_from now (first ∷ rest) = moment_from (moment_after now first) rest

moment_from-append : (now : Moment) (happenings : List Happening) (next : Happening)
    → moment_from now (happenings ++ next ∷ []) ≡ moment_after (moment_from now happenings) next
moment_from-append now [] next = refl
moment_from-append now (first ∷ rest) next = moment_from-append (moment_after now first) rest next

AreKept-append : (now : Moment) (happenings : List Happening) (next : Happening) → AreKept now happenings
    → IsKept (moment_from now happenings) next → AreKept now (happenings ++ next ∷ [])
AreKept-append now [] next are last = (last, tt)
AreKept-append now (first ∷ rest) next are last =
    (are.0, AreKept-append (moment_after now first) rest next are.1 last)

pub record IsTimed (system : SystemValue) (happenings : List Happening) (at : RunState) : Type 0 where
  pub paced : IsPaced at
  clock : at.clock ≡ (moment_from (first_moment system) happenings).clock
  kept : AreKept (first_moment system) happenings

pub are_timed : (ps : List Behaviour) (system : SystemValue) (lines : List ScriptLine) (time : ℕ)
    {happenings : List Happening} {last : RunState} → Execution ps time (beginning system lines) happenings last
    → IsTimed system happenings last
are_timed ps system lines time begins = record { paced = omega arith; clock = refl; kept = tt }
are_timed ps system lines time (goes {happenings = happenings} {at = at} execution next to follows) =
    let before : IsTimed system happenings at = are_timed ps system lines time execution in
    let now : Moment = moment_from (first_moment system) happenings in
    record {
      paced = paced_on ps time at next to follows before.paced;
      clock = clock_on ps time at next to now follows before.clock
          ∙ ap (λ (m : Moment). m.clock) (sym (moment_from-append (first_moment system) happenings next));
      kept = AreKept-append (first_moment system) happenings next before.kept
          (kept_one ps time at next to now follows before.paced before.clock);
    }

all_due : (now : Moment) (happenings : List Happening) → AreKept now happenings → AreDue now happenings
all_due now [] are = tt
all_due now (first ∷ rest) are = (are.0.due, all_due (moment_after now first) rest are.1)

all_in_time : (n : ℕ) (now : Moment) (happenings : List Happening) → AreKept now happenings
    → AreInTime (history_from n now happenings)
all_in_time n now [] are = tt
all_in_time n now (first ∷ rest) are =
    in_time_append (history_of_one n now first) (history_from n (moment_after now first) rest) (are.0.port n)
    (all_in_time n (moment_after now first) rest are.1)

-- each fuse that expires is due
pub expiries_are_due : ExpiriesAreDue
expiries_are_due ps system lines time happenings last behaviours execution =
    all_due (first_moment system) happenings (are_timed ps system lines time execution).kept

-- no expiry of a port is too early
pub histories_are_in_time : HistoriesAreInTime
histories_are_in_time ps system lines time happenings last behaviours execution n =
    all_in_time n (first_moment system) happenings (are_timed ps system lines time execution).kept
