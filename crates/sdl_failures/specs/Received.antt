-- What an instance gets with a signal (Z.102: input).
use Rattle.std.specs.Prelude.{◌++◌, List, [], ◌∷◌, Option, None, Some, Result, Ok, Err, drop, map, slice_get}
use Rattle.std.specs.Option.{option_map}
use Rattle.port_model.specs.declared.values.item.SignalId.{SignalId}
use Rattle.port_model.specs.declared.values.value.Value.{Value}
use Rattle.run_record.specs.Value.{placed}
use Rattle.run_record.specs.Variables.{VariableList}
use Rattle.run_record.specs.declared.evaluation.store.Store.{Store}
use Rattle.run_record.specs.declared.failure.Failure.{Failure}
use Rattle.run_semantics.specs.Instance.{parameters_from}
use Rattle.run_semantics.specs.Reception.{assigned}
use Rattle.sdl_system.specs.Process.{reaction_in}
use Rattle.sdl_system.specs.declared.id.StateId.{StateId}
use Rattle.sdl_system.specs.declared.id.VariableId.{VariableId}
use Rattle.sdl_system.specs.declared.process.Process.{Process}
use Rattle.sdl_system.specs.declared.process.Variable.{Variable}
use Rattle.sdl_system.specs.declared.sort.Sort.{Sort}
use Rattle.sdl_system.specs.declared.state.Reaction.{Reaction}
use Rattle.sdl_system.specs.declared.state.Reaction.TheVariants as react
use Rattle.sdl_system.specs.declared.state.Reception.{Reception}
use Rattle.sdl_failures.specs.declared.replayed.reception.Misfit.{Misfit}

-- the variables before the start: parameters have the values that there are, the others those that they begin with
abbrev pub variables_from : Process → List Value → VariableList
variables_from process values =
    parameters_from process.parameters values
    ++ drop process.parameters (map (λ (v : Variable). v.initial) process.variables.items)

-- the sort of a variable
abbrev pub sort_in : Process → VariableId → Option Sort
sort_in process variable = option_map (λ (v : Variable). v.sort) (slice_get process.variables.items variable.0)

-- what begins with a signal, where a state takes it
abbrev pub reception_of : Option Reaction → Option Reception
reception_of (Some (react.Input reception condition)) = Some reception
reception_of (Some (react.Priority reception)) = Some reception
reception_of (Some react.Save) = None
reception_of None = None

abbrev pub reception_in : Process → Option StateId → SignalId → Option Reception
reception_in process None signal = None
reception_in process (Some state) signal = reception_of (reaction_in process state signal)

-- once a variable has its value, those behind it get theirs; one that doesn't fit is told
abbrev pub received_on : (Store → Result Store Misfit) → VariableId → Value → Result Value Failure → Store
    → Result Store Misfit
received_on later variable value (Err why) s = Err (record { variable = variable; value = value; why = why })
received_on later variable value (Ok taken) s = later (assigned variable taken s)

-- the store once the values have gone to the variables, one after the other, or the first that doesn't fit; a value
-- without a variable is dropped
abbrev pub received : Process → List (Option VariableId) → List Value → Store → Result Store Misfit
received process [] values s = Ok s
received process (variable ∷ variables) [] s = Ok s
received process (None ∷ variables) (value ∷ values) s = received process variables values s
received process (Some variable ∷ variables) (value ∷ values) s =
    received_on (received process variables values) variable value (placed (sort_in process variable) value) s

abbrev pub kept : Result Store Misfit → Option Store
kept (Ok s) = Some s
kept (Err misfit) = None

-- where nothing begins with the signal, nothing is known
abbrev pub received_by : Process → Option Reception → List Value → Store → Option Store
received_by process None values s = None
received_by process (Some reception) values s = kept (received process reception.variables.items values s)
