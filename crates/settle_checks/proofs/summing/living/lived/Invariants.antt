use Rattle.std.proofs.Common.{take}
use Rattle.settle_checks.specs.Least.{HasLeast, lasting_of}
use Rattle.settle_checks.proofs.summing.living.lived.Given as goal

abbrev pub invariant-loop-k : goal.invariant-loop-k
invariant-loop-k l =
    HasLeast (lasting_of (take l.k l.records)) l.first.items
