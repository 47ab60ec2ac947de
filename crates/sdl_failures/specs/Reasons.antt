-- What is said of a failure is so.
use Rattle.std.specs.Prelude.{◌≡◌, ◌≤◌, ◌^◌, ℕ, List, None, Some, IsErr, slice_get, string_bytes}
use Rattle.run_record.specs.Variables.{value_in}
use Rattle.run_record.specs.declared.evaluation.store.Store.{Store}
use Rattle.run_semantics.specs.Fails.{later}
use Rattle.sdl_system.specs.Operation.{applied, applied_to_one}
use Rattle.sdl_system.specs.Sort.{as_sort}
use Rattle.sdl_system.specs.declared.id.VariableId.{VariableId}
use Rattle.sdl_system.specs.declared.process.Process.{Process}
use Rattle.sdl_system.specs.declared.process.Variable.{Variable}
use Rattle.sdl_system.specs.declared.operation.NumberSort.{NumberSort}
use Rattle.sdl_system.specs.declared.operation.Operation.TheVariants.{Arithmetic}
use Rattle.sdl_system.specs.declared.operation.UnaryOperation.{UnaryOperation}
use Rattle.sdl_system.specs.declared.sort.Sort.{Sort}
use Rattle.sdl_failures.specs.declared.reason.Reason.{Reason}
use Rattle.sdl_failures.specs.declared.reason.Reason.TheVariants as reason

-- the variable of this name has no value
pub record HasNoValue (process : Process) (s : Store) (name : List ℕ) : Type 0 where
  pub variable : VariableId
  pub named : Variable
  pub is : slice_get process.variables.items variable.0 ≡ Some named
  pub name_is : string_bytes named.name ≡ name
  pub none : value_in s.variables variable ≡ None

-- A variable has no value; an operation gives none of these operands; a time is past 64 bits; a value has none of a sort.
abbrev pub IsSo : Process → Store → Reason → Type 0
IsSo process s (reason.NoValue name) = HasNoValue process s name.now
IsSo process s (reason.Calculation left operation right) =
    (sort : NumberSort) × IsErr (applied (Arithmetic operation sort) left right)
IsSo process s (reason.Negation value) = (operation : UnaryOperation) × IsErr (applied_to_one operation value)
IsSo process s (reason.Later now duration) = (now ≡ s.time) × IsErr (later now duration)
IsSo process s (reason.Time now) = (now ≡ s.time) × (2 ^ 63 ≤ now)
IsSo process s (reason.NotNatural value variable) = (sort : Sort) × (as_sort sort value ≡ None)
IsSo process s other = Unit {0}
