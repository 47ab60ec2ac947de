use Rattle.settle_checks.specs.Summary.{AreSummaries}
use Rattle.settle_checks.proofs.account.looking.found_in.Given as goal

abbrev pub invariant-loop-look : goal.invariant-loop-look
invariant-loop-look l = AreSummaries l.yielded l.sums.items
