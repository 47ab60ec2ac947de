-- One number more.
use Rattle.std.proofs.Common.{rules}
use Rattle.settle_checks.proofs.RowLemmas.{row_more, row_none}
use Rattle.settle_checks.proofs.account.putting.row_of.Goals as goal

pub loop-number-init : goal.loop-number-init
loop-number-init g c = row_none c.args.peers.now c.in_ok-row.row.items (search rules)

pub loop-number-preserved : goal.loop-number-preserved
loop-number-preserved g c =
    row_more c.args.peers.now c.loop-number.number c.sent.result c.loop-number.row.items c.push.new.self.items
    c.loop-number.invariant c.sent.ensures c.in_ok-push.ensures.items
