use Rattle.std.proofs.Common.{take}
use Rattle.settle_checks.proofs.CoveredLemmas.{AreCoveredBy}
use Rattle.settle_checks.proofs.summing.covered.use_all.Given as goal

abbrev pub invariant-loop-one : goal.invariant-loop-one
invariant-loop-one l =
    AreCoveredBy l.initial.left l.left (take l.one-index l.taken)
