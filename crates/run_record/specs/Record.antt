-- What an instance did, as callers see it.
use Rattle.std.specs.Prelude.{ℕ, ◌-◌, List, [], ◌∷◌, ◌++◌, length}
use Rattle.port_model.specs.declared.values.pid.Pid.{Pid}
use Rattle.sdl_system.specs.declared.id.ProcessId.{ProcessId}
use Rattle.run_record.specs.Event.{Event, values_of}

-- The instance, its creator, and its events, one after the other. It takes `room` events more, and with them
-- `values_room` values, without memory.
pub record RecordValue : Type 0 where
  pub process : ProcessId
  pub pid : ℕ
  pub parent : Pid
  pub events : List Event
  pub room : ℕ
  pub values_room : ℕ

-- the record with this event behind all others
abbrev pub noted : RecordValue → Event → RecordValue
noted trace event = record trace {
  events = trace.events ++ event ∷ [];
  room = trace.room - 1;
  values_room = trace.values_room - length (values_of event);
}

-- the record with room for so many events and values
abbrev pub with_room : RecordValue → ℕ → ℕ → RecordValue
with_room trace events values = record trace { room = events; values_room = values }
