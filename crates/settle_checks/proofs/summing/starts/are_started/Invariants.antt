use Rattle.std.proofs.Common.{All, take}
use Rattle.settle_checks.proofs.StartLemmas.{AreBornOfFirst}
use Rattle.settle_checks.specs.Starts.{StartsFirst}
use Rattle.settle_checks.proofs.summing.starts.are_started.Given as goal

abbrev pub invariant-loop-k : goal.invariant-loop-k
invariant-loop-k l =
    record {
      first : All StartsFirst (take l.k l.records);
      born : AreBornOfFirst l.records l.sums l.k;
    }
