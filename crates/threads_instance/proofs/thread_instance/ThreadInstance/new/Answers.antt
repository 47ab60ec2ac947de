-- It has done nothing so far.
use Rattle.std.proofs.Common.{ap}
use Rattle.threads_instance.proofs.Beginning.{begun}
use Rattle.threads_instance.specs.Outbox.{OutboxState}
use Rattle.threads_instance.proofs.thread_instance.ThreadInstance.new.Goals as goal

pub invariant_of-result : goal.invariant_of-result
invariant_of-result g c =
    begun g.P.Inbox.shared g.J.Run.system g.J.Run.ports c.args.system.now c.args.process.now c.args.who c.args.values
    (g.P.Inbox.owning c.args.inbox) c.in-Ok.instance c.new-2.result.sent c.new-3.result.effects c.in-Ok.ensures
    (ap (λ (o : OutboxState). o.sent) c.new-2.ensures) c.new-3.ensures.effects c.requires.system c.requires.process
    c.requires.port c.requires.own c.requires.empty c.requires.drawn
