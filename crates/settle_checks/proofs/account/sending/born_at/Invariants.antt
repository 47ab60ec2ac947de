use Rattle.std.proofs.Common.{All, take}
use Rattle.settle_checks.specs.Crossed.{IsBornAfter}
use Rattle.settle_checks.proofs.account.sending.born_at.Given as goal

abbrev pub invariant-loop-sum : goal.invariant-loop-sum
invariant-loop-sum l =
    All (IsBornAfter l.number l.born) (take l.sum-index l.sums)
