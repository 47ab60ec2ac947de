-- Where the record of a number is.
use Rattle.std.specs.Prelude.{◌≡◌, ◌<◌, ℕ, List, All, MatchOption, Option, length, slice_index_or}
use Rattle.run_record.specs.Record.{RecordValue}

-- the record at this place has the number; or none has
abbrev pub IsPlaceWith : List RecordValue → ℕ → Option ℕ → Type 0
IsPlaceWith records number place =
    MatchOption place (All (λ (trace : RecordValue). trace.pid ≡ number → ⊥) records)
    (λ k. (k < length records)
    × ((d : RecordValue) → (slice_index_or records k d).pid ≡ number))
