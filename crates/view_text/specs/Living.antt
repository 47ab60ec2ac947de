-- Who lives, as it is kept along a timeline.
use Rattle.std.specs.Prelude.{◌≡◌, ℕ, ◌<◌, ◌==◌, nat_eq, Bool, true, false, List, if◌then◌else◌}
use Rattle.indexmap.specs.IndexSet.{contains}
use Rattle.run_record.specs.Record.{RecordValue}
use Rattle.view_text.specs.Numbered.{are_numbered}
use Rattle.view_text.specs.Sending.{least_living}
use Rattle.view_text.specs.declared.living.Living.{Living}

-- whether an instance lives by what is kept
abbrev pub living_in : Living → ℕ → Bool
living_in living number = contains nat_eq living.numbers number

-- who lives, once the instance of this number does or does no more
abbrev pub changed : Bool → ℕ → (ℕ → Bool) → ℕ → Bool
changed now number lives other = if number == other then now else lives other

-- none of a greater number lives
abbrev pub IsMost : ℕ → (ℕ → Bool) → Type 0
IsMost most lives = (number : ℕ) → most < number → lives number ≡ false

-- For each process the least number of those that live is kept, too; a number that none of theirs is above; and whether
-- the records are numbered from 1 on.
pub record IsLeast (living : Living) : Type 0 where
  pub numbers : living.least.items ≡ least_living (living_in living) living.records.now living.processes
  pub most : IsMost living.most (living_in living)
  pub numbered : living.is_numbered ≡ true → are_numbered 1 living.records.now ≡ true

-- This is who lives, of these records and so many processes.
pub record AreLiving (records : List RecordValue) (processes : ℕ) (lives : ℕ → Bool) (living : Living) : Type 0 where
  pub records_are : living.records.now ≡ records
  pub processes_are : living.processes ≡ processes
  pub numbers : (number : ℕ) → living_in living number ≡ lives number
  pub least : IsLeast living
