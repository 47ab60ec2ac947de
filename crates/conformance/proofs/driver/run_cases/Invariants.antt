use Rattle.std.proofs.Common.{◌≡◌, take}
use Rattle.conformance.specs.Tally.{AddsUp, IsTally}
use Rattle.conformance.proofs.driver.run_cases.Given as goal

abbrev pub invariant-loop-case : goal.invariant-loop-case
invariant-loop-case g l = record { number : l.counts.cases ≡ l.case-index; adds_up : AddsUp l.counts; tally : IsTally (take l.case-index l.cases) l.counts }
