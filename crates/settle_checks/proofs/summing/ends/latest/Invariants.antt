use Rattle.std.proofs.Common.{◌≡◌, map, take}
use Rattle.settle_meaning.specs.Times.{greatest}
use Rattle.settle_checks.specs.declared.summing.summary.Summary.{Summary}
use Rattle.settle_checks.proofs.summing.ends.latest.Given as goal

abbrev pub invariant-loop-sum : goal.invariant-loop-sum
invariant-loop-sum l =
    l.latest ≡ greatest (map (λ (sum : Summary). sum.course.time) (take l.sum-index l.sums))
