-- Whether an instance had looked at its port before a condition failed it.
use Rattle.std.specs.Prelude.{Bool, true, false, List}
use Rattle.run_record.specs.Record.{RecordValue}
use Rattle.sdl_failures.specs.FailedCondition.{FailsByKind}
use Rattle.sdl_failures.specs.declared.replayed.condition_kind.ConditionKind.TheVariants.{Enabling}
use Rattle.sdl_system.specs.System.{SystemValue}

-- It had not where an enabling condition fails: these are evaluated before.
abbrev pub HadLooked : SystemValue → List RecordValue → RecordValue → Bool → Type 0
HadLooked system records trace true = Unit {0}
HadLooked system records trace false = FailsByKind system records trace Enabling
