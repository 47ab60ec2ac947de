-- The instances that are left behind the last process.
use Rattle.std.proofs.Common.{◌≡◌, ◌⊎◌, inl, inr, ℤ, List, [], ◌∷◌, Option, map, refl}
use Rattle.build_constants.specs.declared.counts.InstanceCounts.{InstanceCounts}
use Rattle.build_definitions.specs.Rows.{ProcessRow}
use Rattle.build_definitions.specs.Seen.{process_seen}
use Rattle.build_definitions.specs.declared.entries.ProcessEntry.{ProcessEntry}
use Rattle.build_constants.specs.Limit.{limit_from}

none-counted : (left : ℤ) (rows : List ProcessRow) → limit_from left rows [] ≡ []
none-counted left [] = refl
none-counted left (row ∷ rows) = refl

-- where no process or no counts are left, none is told
pub none-told :
    (left : ℤ) (entries : List ProcessEntry) (counts : List (Option InstanceCounts))
    → (entries ≡ []) ⊎ (counts ≡ []) → limit_from left (map process_seen entries) counts ≡ []
none-told left entries counts (inl none) = rw none refl
none-told left entries counts (inr none) = rw none (none-counted left (map process_seen entries))
