use Rattle.std.proofs.Common.{◌≡◌, take}
use Rattle.std.specs.List.{sum_by}
use Rattle.settle_checks.specs.declared.summing.summary.Summary.{Summary}
use Rattle.settle_checks.proofs.summing.ends.transitions.Given as goal

abbrev pub invariant-loop-sum : goal.invariant-loop-sum
invariant-loop-sum l =
    l.count ≡ sum_by (λ (sum : Summary). sum.course.transitions) (take l.sum-index l.sums)
