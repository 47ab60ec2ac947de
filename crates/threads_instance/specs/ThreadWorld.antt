-- The world of an instance that makes a step in a run on threads.
use Rattle.std.specs.Prelude.{ℕ, List, None, Some}
use Rattle.port_model.specs.declared.values.item.Item.{Item}
use Rattle.threads_instance.specs.Outbox.{sent_in}
use Rattle.run_semantics.specs.Effect.{Effect}
use Rattle.run_semantics.specs.World.{WorldValue}
use Rattle.sdl_system.specs.System.{SystemValue}

-- Of the run it is known at what time the step is made, what the instance has sent, and all that it has done. Others come
-- and end meanwhile.
abbrev pub world_of : SystemValue → ℕ → List (ℕ × Item) → List Effect → WorldValue
world_of system time sent effects = record {
  system = system;
  clock = Some time;
  living = None;
  effects = Some effects;
  sent = Some (sent_in sent);
}
