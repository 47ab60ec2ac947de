use Rattle.std.proofs.Common.{[]}
use Rattle.settle_checks.specs.Least.{HasLeast}
use Rattle.settle_checks.proofs.summing.living.nobody.Given as goal

abbrev pub invariant-loop-process : goal.invariant-loop-process
invariant-loop-process l =
    HasLeast [] l.first.items
