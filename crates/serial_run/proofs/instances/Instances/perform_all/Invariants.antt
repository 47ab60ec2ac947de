use Rattle.std.proofs.Common.{◌≡◌, ◌+◌, ◌≤◌, ℕ, length, map}
use Rattle.serial_run.specs.StepWorld.{AreNumbered, effect_of}
use Rattle.serial_order.specs.Execution.{IsNoFuseBefore}
use Rattle.serial_order.specs.RunState.{RunState, after_effects}
use Rattle.serial_run.specs.Serial.{IsSerial, state_of}
use Rattle.serial_run.specs.Thinned.{IsThinned}
use Rattle.serial_sweeps.specs.Sweeps.{Moment, at_agenda}
use Rattle.serial_run.proofs.instances.Instances.perform_all.Given as goal

-- what all acts make of a state that has the fuses of the first one, those that are left make of one that has the
-- fuses of the one so far
abbrev pub invariant-loop-effect : goal.invariant-loop-effect
invariant-loop-effect l = record {
  serial : IsSerial l.agenda.ready l.self;
  system : l.self.system ≡ l.fn.self.system;
  clock : l.agenda.clock ≡ l.fn.agenda.clock;
  state : (m : Moment) (g : RunState) → IsThinned g (state_of (at_agenda m l.fn.agenda) l.fn.self)
      → AreNumbered l.fn.self.living.given (map effect_of l.fn.effects.items)
      → (so_far : RunState) × IsThinned so_far (state_of (at_agenda m l.agenda) l.self)
      × AreNumbered l.self.living.given (map effect_of l.effects.items)
      × (after_effects so_far (map effect_of l.effects.items) ≡ after_effects g (map effect_of l.fn.effects.items));
  fuses : (until : ℕ) → until ≤ l.fn.agenda.clock + 1 → IsNoFuseBefore until l.fn.agenda.fuses
      → IsNoFuseBefore until l.agenda.fuses;
}

abbrev pub decreases-loop-effect : goal.decreases-loop-effect
decreases-loop-effect l = length l.effects.items
