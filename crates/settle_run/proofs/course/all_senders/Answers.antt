-- One place more.
use Rattle.std.proofs.Common.{rules}
use Rattle.settle_run.proofs.CourseLemmas.{senders_more}
use Rattle.settle_run.proofs.course.all_senders.Goals as goal

pub loop-peers-preserved : goal.loop-peers-preserved
loop-peers-preserved g c =
    senders_more c.args.places.now c.loop-peers.peers-index c.peers-item.result c.loop-peers.rows.items
    c.push.new.self.items
    c.in_ok-senders_into.field-0 (search rules) c.peers-item.is c.loop-peers.invariant c.in_ok-senders_into.ensures
    c.in_ok-push.ensures.items
