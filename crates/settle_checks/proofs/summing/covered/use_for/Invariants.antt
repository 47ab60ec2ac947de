use Rattle.std.proofs.Common.{◌≡◌, ◌≤◌, ◌-◌, length}
use Rattle.settle_checks.proofs.CoveredLemmas.{HasUsed}
use Rattle.settle_checks.proofs.summing.covered.use_for.Given as goal

abbrev pub invariant-loop-place : goal.invariant-loop-place
invariant-loop-place l =
    record {
      less : l.rest ≤ l.taken.count;
      long : length l.left ≡ length l.initial.left;
      used : HasUsed l.taken.way (l.taken.count - l.rest) l.initial.left l.left;
    }
