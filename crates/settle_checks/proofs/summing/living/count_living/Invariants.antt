use Rattle.std.proofs.Common.{◌≡◌, count_by, take}
use Rattle.settle_meaning.specs.Starts.{lives_on}
use Rattle.settle_checks.proofs.summing.living.count_living.Given as goal

abbrev pub invariant-loop-k : goal.invariant-loop-k
invariant-loop-k l =
    l.count ≡ count_by (lives_on l.number) (take l.k l.records)
