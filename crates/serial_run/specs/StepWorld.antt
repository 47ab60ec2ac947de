-- The world of an instance that makes a step: what it sees of the run, and what it does to others.
use Rattle.std.specs.Prelude.{◌≡◌, ◌+◌, ℕ, List, [], ◌∷◌, Option, None, Some, map}
use Rattle.run_semantics.specs.Effect as runs
use Rattle.run_semantics.specs.World.{Living, WorldValue}
use Rattle.serial_run.specs.declared.world.effect.Effect.{Effect}
use Rattle.serial_run.specs.declared.world.effect.Effect.TheVariants as effect
use Rattle.serial_run.specs.declared.world.step_world.SerialWorld.{SerialWorld}

-- an act, as the definitions have it
abbrev pub effect_of : Effect → runs.Effect
effect_of (effect.Send target item) = runs.Send target item
effect_of (effect.Arm fuse) = runs.Arm fuse
effect_of (effect.Create process number parent values) = runs.Create process number parent values

-- who lives now: as the step began, until its first create
abbrev pub living_now : Option Living → Living → Living
living_now None begun = begun
living_now (Some changed) begun = changed

abbrev pub world_of : SerialWorld → WorldValue
world_of w = record {
  system = w.system.now;
  clock = Some w.clock;
  living = Some (living_now w.changed w.begun.now);
  effects = Some (map effect_of w.effects.now.items);
  sent = None;
}

-- the instances that are made have the numbers behind those that were given, one after the other
abbrev pub AreNumbered : ℕ → List runs.Effect → Type 0
AreNumbered given [] = Unit {0}
AreNumbered given (runs.Create process number parent values ∷ rest) =
    (number ≡ given + 1) × AreNumbered (given + 1) rest
AreNumbered given (other ∷ rest) = AreNumbered given rest
