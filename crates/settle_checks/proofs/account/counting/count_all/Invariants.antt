use Rattle.std.proofs.Common.{◌≡◌, length}
use Rattle.settle_checks.proofs.GatherLemmas.{AreCountsOfAll}
use Rattle.settle_checks.proofs.account.counting.count_all.Given as goal

abbrev pub invariant-loop-gathering : goal.invariant-loop-gathering
invariant-loop-gathering g l =
    record {
      long : length l.counted.items ≡ length l.yielded;
      each : AreCountsOfAll l.places l.fn.all.items l.counted.items;
    }
