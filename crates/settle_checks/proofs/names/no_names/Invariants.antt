use Rattle.std.proofs.Common.{[]}
use Rattle.settle_checks.specs.Names.{AreNamedBy}
use Rattle.settle_checks.proofs.names.no_names.Given as goal

abbrev pub invariant-loop-number : goal.invariant-loop-number
invariant-loop-number l =
    AreNamedBy [] l.named.items
