-- The names that stand in a report.
use Rattle.std.specs.Prelude.{ℕ, List, [], slice_get}
use Rattle.std.specs.Option.{option_map_or}
use Rattle.std.specs.String.{string_bytes}
use Rattle.port_model.specs.declared.values.item.SignalId.{SignalId}
use Rattle.sdl_system.specs.System.{SystemValue}
use Rattle.sdl_system.specs.declared.id.ProcessId.{ProcessId}
use Rattle.sdl_system.specs.declared.id.StateId.{StateId}
use Rattle.sdl_system.specs.declared.id.VariableId.{VariableId}
use Rattle.sdl_system.specs.declared.process.Process.{Process}

-- each name is empty where the system has nothing of that number

abbrev pub signal_name : SystemValue → SignalId → List ℕ
signal_name system signal = option_map_or (λ s. string_bytes s.name) (slice_get system.signals signal.0) []

abbrev pub process_name : SystemValue → ProcessId → List ℕ
process_name system process = option_map_or (λ p. string_bytes p.name) (slice_get system.processes process.0) []

abbrev pub name_of_state : Process → StateId → List ℕ
name_of_state process state = option_map_or (λ s. string_bytes s.name) (slice_get process.states.items state.0) []

abbrev pub state_name : SystemValue → ProcessId → StateId → List ℕ
state_name system process state = option_map_or (λ p. name_of_state p state) (slice_get system.processes process.0) []

abbrev pub name_of_variable : Process → VariableId → List ℕ
name_of_variable process variable =
    option_map_or (λ v. string_bytes v.name) (slice_get process.variables.items variable.0) []

abbrev pub variable_name : SystemValue → ProcessId → VariableId → List ℕ
variable_name system process variable =
    option_map_or (λ p. name_of_variable p variable) (slice_get system.processes process.0) []
