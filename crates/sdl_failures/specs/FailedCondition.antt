-- Which condition of a state failed an instance.
use Rattle.std.specs.Prelude.{◌≡◌, ◌==◌, Bool, true, false, List, Some, slice_get}
use Rattle.std.specs.List.{list_any}
use Rattle.run_record.specs.Record.{RecordValue}
use Rattle.run_record.specs.declared.failure.Failure.{Failure}
use Rattle.sdl_system.specs.Process.{table_of}
use Rattle.sdl_system.specs.System.{SystemValue}
use Rattle.sdl_system.specs.declared.id.ConditionId.{ConditionId}
use Rattle.sdl_system.specs.declared.id.StateId.{StateId}
use Rattle.sdl_system.specs.declared.process.Process.{Process}
use Rattle.sdl_system.specs.declared.state.Enabling.{Enabling}
use Rattle.sdl_system.specs.declared.state.StateTable.{StateTable}
use Rattle.sdl_failures.specs.Known.{KnownValue}
use Rattle.sdl_failures.specs.Stands.{IsPlaceOf}
use Rattle.sdl_failures.specs.declared.replayed.condition_kind.ConditionKind.{ConditionKind}
use Rattle.sdl_failures.specs.declared.replayed.condition_kind.ConditionKind.TheVariants as kind
use Rattle.sdl_failures.specs.declared.replayed.halt.Halt.TheVariants as halt

-- whether a condition of a state is an enabling one
abbrev pub is_enabling : StateTable → ConditionId → Bool
is_enabling table number = list_any (λ (one : Enabling). one.condition.0 == number.0) table.conditions.items

abbrev pub is_of_kind : ConditionKind → StateTable → ConditionId → Type 0
is_of_kind kind.Enabling table number = is_enabling table number ≡ true
is_of_kind kind.Continuous table number = is_enabling table number ≡ false

-- The failure of this record comes in a state, of which a condition of this kind fails.
pub record FailsByKind (system : SystemValue) (records : List RecordValue) (trace : RecordValue) (what : ConditionKind)
    : Type 0 where
  pub process : Process
  pub state : StateId
  pub table : StateTable
  pub number : ConditionId
  pub known : KnownValue
  pub why : Failure
  pub is : slice_get system.processes trace.process.0 ≡ Some process
  pub has : table_of process state ≡ Some table
  pub place : IsPlaceOf system records trace (halt.Condition state number) known why
  pub of_kind : is_of_kind what table number
