use Rattle.std.proofs.Common.{◌≡◌, replicate}
use Rattle.view_coverage.proofs.marks.count.zeros.Given as goal

abbrev pub invariant-loop-part : goal.invariant-loop-part
invariant-loop-part l = l.zeros.items ≡ replicate l._part 0
