-- How many instances there may be at the start, all processes together.
use Rattle.std.specs.Prelude.{ℤ, pos, ◌-ℤ◌, List, [], ◌∷◌, Option, None, Some, int_lt, if◌then◌else◌}
use Rattle.build_constants.specs.declared.counts.InstanceCounts.{InstanceCounts}
use Rattle.build_definitions.specs.Rows.{ProcessRow}
use Rattle.build_names.specs.Faults.{Diagnostic, diagnostic_at}
use Rattle.build_names.specs.declared.faults.fault.Rule.TheVariants.{Limit}

abbrev pub most_instances : ℤ
most_instances = pos 1000

-- what the counts take of the instances that are left; those in which a rule is broken take none
abbrev pub taken_by : Option InstanceCounts → ℤ
taken_by None = pos 0
taken_by (Some counts) = if int_lt counts.initial (pos 0) then pos 0 else counts.initial

-- Limit at the name of the first process with which there are too many, where so many are left.
abbrev pub limit_from : ℤ → List ProcessRow → List (Option InstanceCounts) → List Diagnostic
limit_from left [] counts = []
limit_from left (row ∷ rows) [] = []
limit_from left (row ∷ rows) (counted ∷ counts) =
    if int_lt left (taken_by counted)
    then diagnostic_at Limit row.definition.name ∷ []
    else limit_from (left -ℤ taken_by counted) rows counts

abbrev pub limit_faults : List ProcessRow → List (Option InstanceCounts) → List Diagnostic
limit_faults rows counts = limit_from most_instances rows counts
