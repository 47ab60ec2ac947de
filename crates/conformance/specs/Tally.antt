-- How the verdicts on cases are counted.
use Rattle.std.specs.Prelude.{◌+◌, ◌≡◌, List, [], ◌∷◌, ◌++◌}
use Rattle.conformance.specs.Judgement.{Upholds}
use Rattle.conformance.specs.declared.case.Case.{Case}
use Rattle.conformance.specs.declared.judge.Verdict.{Verdict}
use Rattle.conformance.specs.declared.judge.Verdict.TheVariants as verdict
use Rattle.conformance.specs.declared.tally.Counts.{Counts}

-- the counts with one more verdict
abbrev pub counted : Counts → Verdict → Counts
counted c verdict.AsWanted = record c { cases = c.cases + 1; as_wanted = c.as_wanted + 1 }
counted c (verdict.Differs how) = record c { cases = c.cases + 1; differ = c.differ + 1 }

-- each case is counted by one of the two
abbrev pub AddsUp : Counts → Type 0
AddsUp c = c.cases ≡ c.as_wanted + c.differ

-- before the first case
abbrev pub no_counts : Counts
no_counts = record { cases = 0; as_wanted = 0; differ = 0 }

-- the counts of these cases, each by a verdict that it upholds
pub data IsTally : List Case → Counts → Type 0 where
  none : IsTally [] no_counts
  one_more : {cases : List Case} {counts : Counts} (case : Case) (how : Verdict) → IsTally cases counts → Upholds case how → IsTally (cases ++ case ∷ []) (counted counts how)
