-- What the transitions of an instance work on, as the definitions see it.
use Rattle.std.specs.Prelude.{◌<◌, length}
use Rattle.port_model.specs.Ends.{OwnerState}
use Rattle.run_record.specs.declared.evaluation.identity.Identity.{Identity}
use Rattle.run_record.specs.Record.{RecordValue}
use Rattle.run_semantics.specs.Goes.{MachineValue}
use Rattle.run_semantics.specs.ControlPoint.{AtStart, Ended, In, ControlPoint}
use Rattle.sdl_interp.specs.declared.transitions.machine.Machine.{Machine}
use Rattle.sdl_interp.specs.declared.transitions.machine.Position.{Position}
use Rattle.sdl_interp.specs.declared.transitions.machine.Position.TheVariants as position
use Rattle.sdl_system.specs.declared.process.Process.{Process}

-- who the instance of a record is
abbrev pub identity_of : RecordValue → Identity
identity_of trace = record { process = trace.process; pid = trace.pid; parent = trace.parent }

-- the work of an instance, with what its owner of the port knows
abbrev pub value_of : Machine → OwnerState → MachineValue
value_of m owner = record {
  who = identity_of m.trace;
  store = m.store;
  owner = owner;
  events = m.trace.events;
}

-- the place of an instance between two steps
abbrev pub place_of : Position → ControlPoint
place_of position.BeforeStart = AtStart
place_of (position.In state) = In state
place_of position.Ended = Ended

-- the state of a position is one of the process
abbrev pub IsPositionIn : Process → Position → Type 0
IsPositionIn process (position.In n) = n.0 < length process.states.items
IsPositionIn process other = Unit {0}
