-- When instances start, by births.
use Rattle.std.specs.Prelude.{◌≡◌, ◌<◌, ℕ, List, All, MatchOption, Option}
use Rattle.port_model.specs.declared.values.pid.Pid.TheVariants.{Null}
use Rattle.run_record.specs.Record.{RecordValue}
use Rattle.settle_meaning.specs.Starts.{StartsAt}
use Rattle.settle_checks.specs.declared.summing.creating.Birth.{Birth}

-- an instance with which the system begins starts at time 0
abbrev pub StartsFirst : RecordValue → Type 0
StartsFirst trace = trace.parent ≡ Null → StartsAt 0 trace

-- this is the time of the start, or there is none
abbrev pub IsStartTime : Option ℕ → ℕ → Type 0
IsStartTime start time = MatchOption start (Unit {0}) (λ at. at ≡ time)

-- who has the number has a greater one than the creator, and starts as it is created
abbrev pub IsBornBy : List RecordValue → ℕ → Birth → Type 0
IsBornBy records creator birth =
    All (λ (child : RecordValue). child.pid ≡ birth.number → (creator < child.pid) × StartsAt birth.at child) records

abbrev pub AreBornBy : List RecordValue → ℕ → List Birth → Type 0
AreBornBy records creator births = All (IsBornBy records creator) births
