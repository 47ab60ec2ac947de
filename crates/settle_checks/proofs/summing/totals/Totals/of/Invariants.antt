use Rattle.std.proofs.Common.{take}
use Rattle.settle_checks.specs.Totals.{AreTotals}
use Rattle.settle_checks.proofs.summing.totals.Totals.of.Given as goal

abbrev pub invariant-loop-flow : goal.invariant-loop-flow
invariant-loop-flow l =
    AreTotals (take l.flow-index l.flows) l.totals
