-- Each instance of a serial run is of its system.
use Rattle.std.proofs.Common.{◌≡◌, ◌∙◌, ◌+◌, if◌then◌else◌, refl, subst, sym, ℕ, zero, suc, Bool, true, false, All, List, [], ◌∷◌, None, Option, Some, nat_le, slice_get}
use Rattle.std.proofs.lemmas.List.Elements.{All-append, All-cons, All-nil, All-set}
use Rattle.std.proofs.lemmas.Option.{none-some}
use Rattle.laws_whole.proofs.Lists.{all_at}
use Rattle.port_model.specs.declared.values.pid.Pid.TheVariants as pid
use Rattle.port_model.specs.declared.values.value.Value.{Value}
use Rattle.run_record.specs.declared.evaluation.identity.Identity.{Identity}
use Rattle.run_semantics.specs.Effect.{Arm, Create, Effect, Send, effects_of}
use Rattle.sdl_interp.specs.Instance.{InstanceValue}
use Rattle.sdl_script.specs.declared.script.ScriptLine.{ScriptLine}
use Rattle.sdl_system.specs.Behaviour.{Behaviour}
use Rattle.sdl_system.specs.System.{SystemValue}
use Rattle.sdl_system.specs.declared.process.Process.{Process}
use Rattle.sdl_system.specs.declared.route.Target.TheVariants.{Env, Instance, Nobody, Null}
use Rattle.sdl_timers.specs.DueOrder.{with_fuse}
use Rattle.serial_order.specs.Execution.{Execution, Expired, Follows, Happening, Heard, Moved, Ticked, begins, goes}
use Rattle.serial_order.specs.RunState.{RunState, after_effect, after_effects, beginning, change_at, changed_at, first_instances, first_of, instance_at, instance_of, with_created, with_expiry, with_instance, with_put}

module _ (system : SystemValue) where
  abbrev IsOfSystem : InstanceValue → Type 0
  IsOfSystem i = i.system ≡ system

  at_number : (xs : List InstanceValue) (n : ℕ) (i : InstanceValue) → instance_at xs n ≡ Some i
      → All IsOfSystem xs → IsOfSystem i
  at_number xs zero i there all = absurd (none-some i there)
  at_number xs (suc k) i there all = all_at IsOfSystem xs k i there all

  with_one : (xs : List InstanceValue) (n : ℕ) (new : InstanceValue) → IsOfSystem new → All IsOfSystem xs
      → All IsOfSystem (with_instance xs n new)
  with_one xs zero new is all = all
  with_one xs (suc k) new is all = All-set IsOfSystem xs k new is all

  module _ (change : InstanceValue → InstanceValue) (keeps : (i : InstanceValue) → (change i).system ≡ i.system) where
    changed : (xs : List InstanceValue) (n : ℕ) (o : Option InstanceValue) → instance_at xs n ≡ o
        → All IsOfSystem xs → All IsOfSystem (changed_at change xs n o)
    changed xs n None is all = all
    changed xs n (Some i) is all = with_one xs n (change i) (keeps i ∙ at_number xs n i is all) all

    change_one : (xs : List InstanceValue) (n : ℕ) → All IsOfSystem xs → All IsOfSystem (change_at change xs n)
    change_one xs n all = changed xs n (instance_at xs n) refl all

  create_one : (xs : List InstanceValue) (who : Identity) (values : List Value) (o : Option Process)
      → All IsOfSystem xs → All IsOfSystem (with_created system xs who values o)
  create_one xs who values None all = all
  create_one xs who values (Some process) all =
      All-append IsOfSystem xs (instance_of system process who values ∷ []) all
      (All-cons IsOfSystem (instance_of system process who values) [] refl (All-nil IsOfSystem))

  -- the system of the whole, and of each instance
  record AreOfSystem (g : RunState) : Type 0 where
    system_is : g.system ≡ system
    all : All IsOfSystem g.instances

  effect_one : (g : RunState) (effect : Effect) → AreOfSystem g → AreOfSystem (after_effect g effect)
  effect_one g (Send (Instance number) item) are = record {
    system_is = are.system_is;
    all = change_one (with_put item) (λ i. refl) g.instances number are.all;
  }
  effect_one g (Send Env item) are = are
  effect_one g (Send Null item) are = are
  effect_one g (Send Nobody item) are = are
  effect_one g (Arm fuse) are =
      by_test (nat_le fuse.due g.clock)
      (record g { instances = change_at (with_expiry fuse g.clock) g.instances fuse.pid })
      (record g { fuses = with_fuse fuse g.fuses })
      (record {
        system_is = are.system_is;
        all = change_one (with_expiry fuse g.clock) (λ i. refl) g.instances fuse.pid are.all;
      })
      (record { system_is = are.system_is; all = are.all }) where
        by_test : (b : Bool) (now later : RunState) → AreOfSystem now → AreOfSystem later
            → AreOfSystem (if b then now else later)
        by_test true now later first second = first
        by_test false now later first second = second
  effect_one g (Create id number parent values) are =
      let who : Identity = record { process = id; pid = number; parent = pid.Of parent } in
      record {
        system_is = are.system_is;
        all = subst (λ (s : SystemValue). All IsOfSystem (with_created s g.instances who values
            (slice_get s.processes id.0))) (sym are.system_is)
            (create_one g.instances who values (slice_get system.processes id.0) are.all);
      }

  effects_all : (g : RunState) (done : List Effect) → AreOfSystem g → AreOfSystem (after_effects g done)
  effects_all g [] are = are
  effects_all g (effect ∷ rest) are = effects_all (after_effect g effect) rest (effect_one g effect are)

  first_of_system : (number k : ℕ) (process : Process) (count : ℕ)
      → All IsOfSystem (first_of system number (record { 0 = k }) process count)
  first_of_system number k process zero = All-nil IsOfSystem
  first_of_system number k process (suc more) =
      All-cons IsOfSystem
      (instance_of system process (record { process = record { 0 = k }; pid = number; parent = pid.Null }) [])
      (first_of system (number + 1) (record { 0 = k }) process more) refl
      (first_of_system (number + 1) k process more)

  first_system : (number id : ℕ) (processes : List Process)
      → All IsOfSystem (first_instances system number id processes)
  first_system number id [] = All-nil IsOfSystem
  first_system number id (process ∷ more) =
      All-append IsOfSystem (first_of system number (record { 0 = id }) process process.initial)
      (first_instances system (number + process.initial) (id + 1) more)
      (first_of_system number id process process.initial)
      (first_system (number + process.initial) (id + 1) more)

  module _ (ps : List Behaviour) (time : ℕ) where
    next_all : (g : RunState) (next : Happening) (h : RunState) → Follows ps time g next h → AreOfSystem g
        → AreOfSystem h
    next_all g (Moved who deeds) h step are =
        subst (λ (g : RunState). AreOfSystem g) (sym step.now)
        (effects_all
        (record g { instances = with_instance g.instances who.pid step.new; turn = who.pid; bound = step.bound })
        (effects_of deeds)
        (record {
          system_is = are.system_is;
          all = with_one g.instances who.pid step.new
              (step.keeps.system ∙ at_number g.instances who.pid step.old step.is_there are.all) are.all;
        }))
    next_all g (Expired fuse) h expires are =
        subst (λ (g : RunState). AreOfSystem g) (sym expires.now)
        (record {
          system_is = are.system_is;
          all = change_one (with_expiry fuse g.clock) (λ i. refl) g.instances fuse.pid are.all;
        })
    next_all g (Heard line done) h hear are =
        subst (λ (g : RunState). AreOfSystem g) (sym hear.now)
        (effects_all (record g { script = hear.later }) done (record { system_is = are.system_is; all = are.all }))
    next_all g (Ticked at) h tick are =
        subst (λ (g : RunState). AreOfSystem g) (sym tick.now) (record { system_is = are.system_is; all = are.all })

    all_are : {lines : List ScriptLine} {happenings : List Happening} {last : RunState}
        → Execution ps time (beginning system lines) happenings last → AreOfSystem last
    all_are begins = record { system_is = refl; all = first_system 1 0 system.processes }
    all_are (goes {at = at} execution next to follows) = next_all at next to follows (all_are execution)

-- the instance of a number is of the system
pub all_system : (ps : List Behaviour) (system : SystemValue) (time : ℕ) {lines : List ScriptLine}
    {happenings : List Happening} {last : RunState} → Execution ps time (beginning system lines) happenings last
    → (n : ℕ) (i : InstanceValue) → instance_at last.instances n ≡ Some i → i.system ≡ system
all_system ps system time {last = last} execution n i there =
    at_number system last.instances n i there (all_are system ps time execution).all
