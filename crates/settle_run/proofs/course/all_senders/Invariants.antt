use Rattle.std.proofs.Common.{◌≡◌, map, take}
use Rattle.settle_run.specs.Course.{rows_of}
use Rattle.threads_ports.specs.Peers.{senders_into}
use Rattle.settle_run.proofs.course.all_senders.Given as goal

abbrev pub invariant-loop-peers : goal.invariant-loop-peers
invariant-loop-peers g l = rows_of l.rows.items ≡ map senders_into (take l.peers-index l.places)
