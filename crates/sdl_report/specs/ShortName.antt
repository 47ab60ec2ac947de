-- Names that are short enough to be copied with a fixed length.
use Rattle.std.specs.Prelude.{◌≡◌, ℕ, List, Option, None, Some, length, map, nat_le, if◌then◌else◌, option_and_then, slice_get, string_bytes}
use Rattle.port_model.specs.declared.values.item.SignalId.{SignalId}
use Rattle.sdl_system.specs.System.{SystemValue}
use Rattle.sdl_system.specs.declared.id.ProcessId.{ProcessId}
use Rattle.sdl_system.specs.declared.id.StateId.{StateId}
use Rattle.sdl_system.specs.declared.id.VariableId.{VariableId}
use Rattle.sdl_system.specs.declared.process.Process.{Process}
use Rattle.sdl_system.specs.declared.process.State as state
use Rattle.sdl_system.specs.declared.process.Variable as variable
use Rattle.sdl_system.specs.declared.signal.Signal as signal

-- a name, if it is short
abbrev pub short : List ℕ → Option (List ℕ)
short name = if nat_le (length name) 32 then Some name else None

abbrev pub signal_short : signal.Signal → Option (List ℕ)
signal_short one = short (string_bytes one.name)

abbrev pub state_short : state.State → Option (List ℕ)
state_short one = short (string_bytes one.name)

abbrev pub variable_short : variable.Variable → Option (List ℕ)
variable_short one = short (string_bytes one.name)

-- the short names of the states and of the variables of a process, by number
pub record ProcessNamesValue : Type 0 where
  pub states : List (Option (List ℕ))
  pub variables : List (Option (List ℕ))

abbrev pub process_names : Process → ProcessNamesValue
process_names process = record {
  states = map state_short process.states.items;
  variables = map variable_short process.variables.items;
}

-- these are the short names of the system, by number
pub record AreShortNames (system : SystemValue) (by_signal : List (Option (List ℕ))) (by_process : List ProcessNamesValue) : Type 0 where
  pub of_signals : by_signal ≡ map signal_short system.signals
  pub of_processes : by_process ≡ map process_names system.processes

-- the short name of this number, if the system has the number and its name is short

abbrev pub short_of_signal : SystemValue → SignalId → Option (List ℕ)
short_of_signal system number = option_and_then signal_short (slice_get system.signals number.0)

abbrev pub short_of_state : SystemValue → ProcessId → StateId → Option (List ℕ)
short_of_state system process number =
    option_and_then (λ p. option_and_then state_short (slice_get p.states.items number.0))
    (slice_get system.processes process.0)

abbrev pub short_of_variable : SystemValue → ProcessId → VariableId → Option (List ℕ)
short_of_variable system process number =
    option_and_then (λ p. option_and_then variable_short (slice_get p.variables.items number.0))
    (slice_get system.processes process.0)
