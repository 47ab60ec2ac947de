-- Looks at the records of a run.
use Rattle.std.specs.Prelude.{⊤}
use Rattle.run_record.specs.Record.{RecordValue}
use Rattle.settle_checks.specs.declared.account.look.Found.{Found}
use Rattle.settle_checks.specs.declared.account.look.Found.TheVariants as found
use Rattle.settle_checks.specs.Summary.{IsSummary}

-- what was found in a record is its summary, if it is one
abbrev pub IsFoundIn : RecordValue → Found → Type 0
IsFoundIn trace (found.Sum sum) = IsSummary trace sum
IsFoundIn trace other = ⊤
