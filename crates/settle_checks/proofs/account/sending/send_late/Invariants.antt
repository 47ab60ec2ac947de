use Rattle.settle_checks.proofs.SendLemmas.{AreRestsSent}
use Rattle.settle_checks.proofs.account.sending.send_late.Given as goal

abbrev pub invariant-loop-to : goal.invariant-loop-to
invariant-loop-to g l =
    AreRestsSent l.records l.sums l.from l.passes l.peers l.to-index l.initial.sent.items l.sent.items
