-- The world of an instance that makes a step again.
use Rattle.std.specs.Prelude.{ℕ, List, Some, None, map}
use Rattle.run_order.specs.declared.replay_world.ReplayWorld.{ReplayWorld}
use Rattle.run_semantics.specs.World.{WorldValue}
use Rattle.sdl_system.specs.System.{SystemValue}
use Rattle.serial_run.specs.StepWorld.{effect_of}
use Rattle.serial_run.specs.declared.world.effect.Effect.{Effect}

-- who lives isn't known in it
abbrev pub world_with : SystemValue → ℕ → List Effect → WorldValue
world_with system clock effects =
    record { system = system; clock = Some clock; living = None; effects = Some (map effect_of effects); sent = None }

abbrev pub world_of : ReplayWorld → WorldValue
world_of w = world_with w.system.now w.clock w.effects.now.items
