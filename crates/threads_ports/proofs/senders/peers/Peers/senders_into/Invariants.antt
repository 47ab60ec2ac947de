use Rattle.std.proofs.Common.{◌≡◌, take}
use Rattle.threads_ports.specs.Peers.{senders_into}
use Rattle.threads_ports.proofs.senders.peers.Peers.senders_into.Given as goal

abbrev pub invariant-loop-place : goal.invariant-loop-place
invariant-loop-place g l = l.list.items ≡ senders_into (take l.place l.self-inside.senders.entries)
