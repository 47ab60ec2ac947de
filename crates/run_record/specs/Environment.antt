-- Under what an expression is evaluated (Z.101: agent; Z.104: variable access, now, active, Pid expression).
use Rattle.std.specs.Prelude.{ℕ, Bool, List, [], slice_get}
use Rattle.std.specs.Option.{option_map_or}
use Rattle.port_model.specs.Port.{PortState}
use Rattle.port_model.specs.Timers.{is_active}
use Rattle.port_model.specs.declared.values.item.SignalId.{SignalId}
use Rattle.port_model.specs.declared.values.pid.Pid.{Pid}
use Rattle.port_model.specs.declared.values.pid.Pid.TheVariants.{Null, Of}
use Rattle.port_model.specs.declared.values.timer_key.TimerKey.{TimerKey}
use Rattle.sdl_system.specs.System.{SystemValue}
use Rattle.sdl_system.specs.declared.sort.Sort.{Sort}
use Rattle.run_record.specs.Variables.{VariableList}
use Rattle.run_record.specs.declared.evaluation.identity.Identity.{Identity}
use Rattle.run_record.specs.declared.evaluation.store.Store.{Store}

-- What the words of an expression stand for: the variables, the four Pids, the time in ticks, the sorts of the values
-- that a timer takes, and whether a timer is active.
pub record Environment : Type 0 where
  pub variables : VariableList
  pub own : Pid
  pub parent : Pid
  pub offspring : Pid
  pub sender : Pid
  pub now : ℕ
  pub sorts : SignalId → List Sort
  pub active : TimerKey → Bool

-- the sorts of the values that a signal or a timer takes; none where the system has no such signal
abbrev pub sorts_of : SystemValue → SignalId → List Sort
sorts_of system signal = option_map_or (λ s. s.sorts.items) (slice_get system.signals signal.0) []

-- the environment of an instance of the system, by what it knows and by its port
abbrev pub environment : SystemValue → Identity → Store → PortState → Environment
environment system who store port = record {
  variables = store.variables;
  own = Of who.pid;
  parent = who.parent;
  offspring = store.offspring;
  sender = store.sender;
  now = store.time;
  sorts = sorts_of system;
  active = λ key. is_active key port.timers;
}

-- what an instance knows before its start, with these variables
abbrev pub initial_store : VariableList → Store
initial_store variables = record { variables = variables; offspring = Null; sender = Null; time = 0; done = 0 }
