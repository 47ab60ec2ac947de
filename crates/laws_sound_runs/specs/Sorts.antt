-- Variables with values of their sorts (Z.102: variable, task, input).
use Rattle.std.specs.Prelude.{◌≡◌, ◌<◌, ℕ, true, IfSome, List, Some, Ok, slice_get}
use Rattle.port_model.specs.History.{PortEvent}
use Rattle.port_model.specs.Port.{PortState}
use Rattle.port_model.specs.declared.values.value.Value.{Value}
use Rattle.run_record.specs.Environment.{Environment}
use Rattle.run_record.specs.Value.{values_at}
use Rattle.run_record.specs.Variables.{VariableList, value_in}
use Rattle.run_record.specs.declared.evaluation.identity.Identity.{Identity}
use Rattle.run_record.specs.declared.evaluation.store.Store.{Store}
use Rattle.run_semantics.specs.Effect.{Deed}
use Rattle.run_semantics.specs.Instance.{first_variables}
use Rattle.run_semantics.specs.ControlPoint.{Definition, ControlPoint}
use Rattle.run_semantics.specs.Runs.{Runs}
use Rattle.sdl_system.specs.Behaviour.{Behaviour, VariableMeaning}
use Rattle.sdl_system.specs.Sort.{has_sort}
use Rattle.sdl_system.specs.Term.{Term}
use Rattle.sdl_system.specs.declared.id.VariableId.{VariableId}
use Rattle.sdl_system.specs.declared.sort.Sort.{Sort}

-- each variable that has a value has one of its sort
abbrev pub HaveSorts : Behaviour → VariableList → Type 0
HaveSorts p variables =
    (number : VariableId) (variable : VariableMeaning) (v : Value) → slice_get p.variables number.0 ≡ Some variable
    → value_in variables number ≡ Some v → has_sort variable.sort v ≡ true

-- the values that a process is made with are of the sorts of its formal parameters, as far as it has any
abbrev pub FitParameters : Behaviour → List Value → Type 0
FitParameters p values =
    (number : ℕ) (variable : VariableMeaning) (v : Value) → number < p.parameters
    → slice_get p.variables number ≡ Some variable → slice_get values number ≡ Some v → has_sort variable.sort v ≡ true

-- each initial value is of the sort of its variable
abbrev pub HaveInitials : Behaviour → Type 0
HaveInitials p =
    (number : ℕ) (variable : VariableMeaning) → slice_get p.variables number ≡ Some variable
    → IfSome variable.initial (λ v. has_sort variable.sort v ≡ true)

-- So it is before the start.
abbrev pub StartsWithSorts : Type 0
StartsWithSorts =
    (p : Behaviour) (values : List Value) → HaveInitials p → FitParameters p values
    → HaveSorts p (first_variables p values)

-- And so it stays in each run.
abbrev pub RunsKeepSorts : Type 0
RunsKeepSorts =
    (d : Definition) (who : Identity) (from place : ControlPoint) (s t : Store) (q r : PortState) (deeds : List Deed)
    (history : List PortEvent) → HaveSorts d.behaviour s.variables → Runs d who from s q deeds history place t r
    → HaveSorts d.behaviour t.variables

-- What terms come to at places of these sorts is of those sorts, as it is in an output, a set or a create.
abbrev pub ValuesFitPlaces : Type 0
ValuesFitPlaces =
    (here : Environment) (sorts : List Sort) (terms : List Term) (values : List Value) (number : ℕ) (sort : Sort)
    (v : Value) → values_at here sorts terms ≡ Ok values → slice_get sorts number ≡ Some sort
    → slice_get values number ≡ Some v → has_sort sort v ≡ true
