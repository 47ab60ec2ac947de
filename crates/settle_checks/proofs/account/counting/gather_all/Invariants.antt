use Rattle.std.proofs.Common.{◌≡◌, All, length}
use Rattle.settle_checks.specs.Gatherings.{AreGatheringsOf, HasGathered}
use Rattle.settle_checks.proofs.account.counting.gather_all.Given as goal

abbrev pub invariant-loop-peers : goal.invariant-loop-peers
invariant-loop-peers g l =
    record {
      place : l.place ≡ length l.yielded;
      of : AreGatheringsOf l.records l.all.items;
      gathered : All (HasGathered g.K.Fixed.puts l.place) l.all.items;
    }
