-- What an instance does to what lies outside of it, and what it records of that (Z.102: output, timer, create).
use Rattle.std.specs.Prelude.{ℕ, List, map}
use Rattle.std.specs.List.{flat_map}
use Rattle.port_model.specs.declared.inbox.entry.Fuse.{Fuse}
use Rattle.port_model.specs.History.{PortEvent}
use Rattle.port_model.specs.declared.values.item.Item.{Item}
use Rattle.port_model.specs.declared.values.value.Value.{Value}
use Rattle.run_record.specs.Event.{Event}
use Rattle.sdl_system.specs.declared.id.ProcessId.{ProcessId}
use Rattle.sdl_system.specs.declared.route.Target.{Target}

-- a signal is sent; a timer is set, whose fuse expires at its time; an instance of this number is made, with the
-- number of its creator and the values of its parameters
pub data Effect : Type 0 where
  Send : (target : Target) (item : Item) → Effect
  Arm : (fuse : Fuse) → Effect
  Create : (process : ProcessId) (number : ℕ) (parent : ℕ) (values : List Value) → Effect

-- an event of the record, with the calls of the instance's own port that belong to it, and what it does outside
pub record Deed : Type 0 where
  pub event : Event
  pub calls : List PortEvent
  pub effects : List Effect

abbrev pub events_of : List Deed → List Event
events_of deeds = map (λ (deed : Deed). deed.event) deeds

abbrev pub calls_of : List Deed → List PortEvent
calls_of deeds = flat_map (λ (deed : Deed). deed.calls) deeds

-- in the order of the statements
abbrev pub effects_of : List Deed → List Effect
effects_of deeds = flat_map (λ (deed : Deed). deed.effects) deeds
