use Rattle.std.proofs.Common.{All, length}
use Rattle.settle_checks.specs.Gatherings.{AreGatheringsOf, IsGatheredBut}
use Rattle.settle_checks.proofs.account.counting.gather_place.Given as goal

abbrev pub invariant-loop-peer : goal.invariant-loop-peer
invariant-loop-peer g l =
    record {
      of : AreGatheringsOf l.records l.all.items;
      left : All (IsGatheredBut g.K.Fixed.puts l.place l.peers) l.all.items;
    }

abbrev pub decreases-loop-peer : goal.decreases-loop-peer
decreases-loop-peer g l = length l.peers
