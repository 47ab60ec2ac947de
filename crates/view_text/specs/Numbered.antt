-- Records by ascending number, and the instances that they are of.
use Rattle.std.specs.Prelude.{ℕ, ◌+◌, ◌==◌, ◌&&◌, Bool, true, List, [], ◌∷◌, Option, None, Some, if◌then◌else◌, nat_lt}
use Rattle.std.specs.List.{find}
use Rattle.std.specs.Option.{option_map}
use Rattle.run_record.specs.Record.{RecordValue}

-- whether the first record is of this number, and each other one of the number after that of the one before
abbrev pub are_numbered : ℕ → List RecordValue → Bool
are_numbered first [] = true
are_numbered first (trace ∷ more) = (trace.pid == first) && are_numbered (first + 1) more

-- the process of the instance with this number
abbrev pub process_of : List RecordValue → ℕ → Option ℕ
process_of records number =
    option_map (λ (trace : RecordValue). trace.process.0) (find (λ (trace : RecordValue). trace.pid == number) records)

-- the lesser of a least number, if there is one, and another
abbrev pub lesser : Option ℕ → ℕ → Option ℕ
lesser None number = Some number
lesser (Some least) number = Some (if nat_lt least number then least else number)
