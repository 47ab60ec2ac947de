-- How many signals went to each instance, by flows.
use Rattle.std.specs.Prelude.{◌≡◌, ◌+◌, ℕ, List, if◌then◌else◌, unwrap_or}
use Rattle.std.specs.BTreeMap.{is_at}
use Rattle.std.specs.Map.{lookup}
use Rattle.std.specs.Ordering.{nat_cmp}
use Rattle.settle_checks.specs.Flows.{counted, is_with}
use Rattle.settle_checks.specs.declared.summing.flows.Flow.{Flow}

-- numbers of instances, each with how many signals went to it
abbrev pub Table : Type 0
Table = List (ℕ × ℕ)

-- how many went to this one
abbrev pub total : Table → ℕ → ℕ
total totals number = unwrap_or (lookup (is_at (nat_cmp number)) totals) 0

-- of each instance so many
abbrev pub AreTotals : List Flow → Table → Type 0
AreTotals flows totals = (number : ℕ) → total totals number ≡ counted (is_with number) flows

-- a flow more
abbrev pub IsOneMore : Flow → Table → Table → Type 0
IsOneMore flow old new =
    (number : ℕ) → total new number ≡ total old number + (if is_with number flow.pass then flow.count else 0)
