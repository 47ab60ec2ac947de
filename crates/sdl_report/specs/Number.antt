-- Records by the numbers of their instances.
use Rattle.std.specs.Prelude.{ℕ, ◌<◌, ◌==◌, List, [], ◌∷◌, Option, Some, None, take, if◌then◌else◌}
use Rattle.std.specs.Option.{option_or}
use Rattle.run_record.specs.Record.{RecordValue}

-- the last record of an instance of this number
abbrev pub last_of : ℕ → List RecordValue → Option RecordValue
last_of number [] = None
last_of number (trace ∷ rest) = option_or (last_of number rest) (if trace.pid == number then Some trace else None)

-- the record of the instance of this number: by ascending number, from 1 on, it's among the first `number`
abbrev pub record_of : ℕ → List RecordValue → Option RecordValue
record_of number records = last_of number (take number records)

-- the numbers of the records rise
abbrev pub AreRising : ℕ → List RecordValue → Type 0
AreRising last [] = Unit {0}
AreRising last (trace ∷ rest) = (last < trace.pid) × AreRising trace.pid rest
