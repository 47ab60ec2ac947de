-- One sender after the other is gathered, the last one first.
use Rattle.std.proofs.Common.{All, subst}
use Rattle.settle_checks.proofs.GatherLemmas.{all_gathered, none_gathered}
use Rattle.settle_checks.specs.Gatherings.{IsGatheredBut}
use Rattle.threads_ports.specs.Peers.{PeersState}
use Rattle.settle_checks.proofs.account.counting.gather_place.Goals as goal

pub loop-peer-init : goal.loop-peer-init
loop-peer-init g c = record {
  of = c.requires.of;
  left = none_gathered g.K.Fixed.puts c.args.place c.args.peers c.args.all.now.items c.requires.puts c.requires.before;
}
