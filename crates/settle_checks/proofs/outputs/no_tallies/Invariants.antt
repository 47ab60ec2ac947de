use Rattle.std.proofs.Common.{[]}
use Rattle.settle_checks.specs.Outputs.{AreTallied}
use Rattle.settle_checks.proofs.outputs.no_tallies.Given as goal

abbrev pub invariant-loop-number : goal.invariant-loop-number
invariant-loop-number l =
    AreTallied [] l.row.items
