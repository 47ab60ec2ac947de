-- The steps part into sweeps.
use Rattle.std.proofs.Common.{◌≡◌, ◌∙◌, ◌<◌, ◌≤◌, ◌+◌, ap, arith, refl, subst, sym, append_assoc, if◌then◌else◌, ℕ, zero, suc, Bool, true, false, List, [], ◌∷◌, ◌++◌, Some, length, nat_le, slice_get}
use Rattle.std.proofs.lemmas.Option.{slice_get_within}
use Rattle.port_model.specs.declared.values.pid.Pid.TheVariants.{Of}
use Rattle.run_record.specs.declared.evaluation.identity.Identity.{Identity}
use Rattle.run_semantics.specs.Effect.{Effect, Arm, Create, Deed, Send, effects_of}
use Rattle.sdl_interp.specs.Instance.{InstanceValue}
use Rattle.sdl_system.specs.Behaviour.{Behaviour}
use Rattle.sdl_system.specs.declared.route.Target.TheVariants.{Env, Instance, Nobody, Null}
use Rattle.sdl_timers.specs.DueOrder.{with_fuse}
use Rattle.serial_order.specs.Execution.{Execution, Expired, Happening, Heard, IsTurn, Moved, RestBetween, Steps, Ticked, begins_anew, goes_on}
use Rattle.serial_order.specs.Execution as execution
use Rattle.serial_order.specs.RunState.{RunState, after_effect, after_effects, change_at, instance_at, with_expiry, with_instance}
use Rattle.laws_one_report.specs.Sweeps.{AreSteps, AreSweeps, BeginningBeginsSweep, BeginsSweep, IsSweep, PartsIntoSweeps, StepsAreSweeps, Sweeping, TicksBeginSweep, begins, none, one_more, steps}

-- ---- what is done outside leaves the marks

-- whose turn it is, and how far the sweep goes
record Marks : Type 0 where
  turn : ℕ
  bound : ℕ

abbrev marks_of : RunState → Marks
marks_of g = record { turn = g.turn; bound = g.bound }

effect_marks : (g : RunState) (effect : Effect) → marks_of (after_effect g effect) ≡ marks_of g
effect_marks g (Send (Instance number) item) = refl
effect_marks g (Send Env item) = refl
effect_marks g (Send Null item) = refl
effect_marks g (Send Nobody item) = refl
effect_marks g (Arm fuse) =
    by_test (nat_le fuse.due g.clock)
    (record g { instances = change_at (with_expiry fuse g.clock) g.instances fuse.pid })
    (record g { fuses = with_fuse fuse g.fuses }) refl refl where
      by_test : (b : Bool) (now later : RunState) → marks_of now ≡ marks_of g → marks_of later ≡ marks_of g
          → marks_of (if b then now else later) ≡ marks_of g
      by_test true now later first second = first
      by_test false now later first second = second
effect_marks g (Create id number parent values) = refl

effects_marks : (g : RunState) (done : List Effect) → marks_of (after_effects g done) ≡ marks_of g
effects_marks g [] = refl
effects_marks g (effect ∷ rest) = effects_marks (after_effect g effect) rest ∙ effect_marks g effect

-- ---- who is there

there_within : (instances : List InstanceValue) (number : ℕ) (i : InstanceValue) → instance_at instances number ≡ Some i
    → (0 < number) × (number ≤ length instances)
there_within instances zero i there = let no : ⊥ = cc in absurd no
there_within instances (suc place) i there =
    let within : place < length instances = slice_get_within instances place i there in
    (omega arith, omega (arith, within))

-- ---- steps

steps_before : (first : List Happening) (next : Happening) → AreSteps (first ++ next ∷ [])
    → AreSteps first × AreSteps (next ∷ [])
steps_before [] next are = (tt, are)
steps_before (Moved who deeds ∷ rest) next are = steps_before rest next are
steps_before (Expired fuse ∷ rest) next are = absurd are
steps_before (Heard line effects ∷ rest) next are = absurd are
steps_before (Ticked time ∷ rest) next are = absurd are

module _ (ps : List Behaviour) (time : ℕ) (first : RunState) where
  -- the steps part, and the marks are where the sweep that goes on has come, and how many were there when it began
  record Marked (happenings : List Happening) (last : RunState) : Type 0 where
    parted : PartsIntoSweeps ps first happenings last
    turn_is : last.turn ≡ parted.number
    bound_is : last.bound ≡ length parted.mid.instances

  module _ (happenings : List Happening) (at : RunState) (marked : Marked happenings at) (who : Identity)
      (deeds : List Deed) (to : RunState) (step : Steps ps at who deeds to) where
    abbrev before : PartsIntoSweeps ps first happenings at
    before = marked.parted

    marks : marks_of to ≡ record { turn = who.pid; bound = step.bound }
    marks =
        ap marks_of step.now
        ∙ effects_marks
        (record at { instances = with_instance at.instances who.pid step.new; turn = who.pid; bound = step.bound })
        (effects_of deeds)

    -- the sweep goes on, or it is whole and the next one begins
    by_turn : (bound : ℕ) → IsTurn ps at who.pid bound → step.bound ≡ bound
        → Marked (happenings ++ Moved who deeds ∷ []) to
    by_turn bound (goes_on less within rest) is = record {
      parted = record {
        whole = before.whole;
        more = before.more ++ Moved who deeds ∷ [];
        mid = before.mid;
        number = who.pid;
        parts = ap (λ (list : List Happening). list ++ Moved who deeds ∷ []) before.parts
            ∙ append_assoc before.whole before.more (Moved who deeds ∷ []);
        sweeps = before.sweeps;
        sweeping = steps before.sweeping who deeds to step (omega (arith, less, marked.turn_is))
            (omega (arith, within, marked.bound_is))
            (subst (λ k. RestBetween ps at.instances k who.pid) marked.turn_is rest);
      };
      turn_is = ap (λ (m : Marks). m.turn) marks;
      bound_is = ap (λ (m : Marks). m.bound) marks ∙ is ∙ marked.bound_is;
    }
    by_turn bound (begins_anew rest ahead) is =
        let there = there_within at.instances who.pid step.old step.is_there in
        record {
          parted = record {
            whole = before.whole ++ before.more;
            more = Moved who deeds ∷ [];
            mid = at;
            number = who.pid;
            parts = ap (λ (list : List Happening). list ++ Moved who deeds ∷ []) before.parts;
            sweeps = one_more before.sweeps before.more at (record {
              number = before.number;
              sweeping = before.sweeping;
              rest = subst (λ k. RestBetween ps at.instances before.number (k + 1)) marked.bound_is
                  (subst (λ k. RestBetween ps at.instances k (at.bound + 1)) marked.turn_is rest);
            });
            sweeping = steps begins who deeds to step there.0 there.1 ahead;
          };
          turn_is = ap (λ (m : Marks). m.turn) marks;
          bound_is = ap (λ (m : Marks). m.bound) marks ∙ is;
        }

  parts : BeginsSweep first → {happenings : List Happening} {last : RunState} → AreSteps happenings
      → Execution ps time first happenings last → Marked happenings last
  parts fresh are execution.begins = record {
    parted = record {
      whole = [];
      more = [];
      mid = first;
      number = 0;
      parts = refl;
      sweeps = none;
      sweeping = begins;
    };
    turn_is = fresh.0;
    bound_is = fresh.1;
  }
  parts fresh are (execution.goes {happenings = done} {at = at} before (Moved who deeds) to step) =
      let split = steps_before done (Moved who deeds) are in
      by_turn done at (parts fresh split.0 before) who deeds to step step.bound step.turn refl
  parts fresh are (execution.goes {happenings = done} before (Expired fuse) to follows) =
      absurd (steps_before done (Expired fuse) are).1
  parts fresh are (execution.goes {happenings = done} before (Heard line effects) to follows) =
      absurd (steps_before done (Heard line effects) are).1
  parts fresh are (execution.goes {happenings = done} before (Ticked at) to follows) =
      absurd (steps_before done (Ticked at) are).1

pub steps_are_sweeps : StepsAreSweeps
steps_are_sweeps ps time first last happenings fresh are run = (parts ps time first fresh are run).parted

-- ---- where a sweep begins

pub beginning_begins_sweep : BeginningBeginsSweep
beginning_begins_sweep system lines = (refl, refl)

pub ticks_begin_sweep : TicksBeginSweep
ticks_begin_sweep ps last g time h tick = subst (λ (g : RunState). BeginsSweep g) (sym tick.now) (refl, refl)
