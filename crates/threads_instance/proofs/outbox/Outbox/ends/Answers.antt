-- The type says so.
use Rattle.std.proofs.Common.{subst}
use Rattle.threads_instance.specs.Outbox.{AreEnds, OutboxState}
use Rattle.threads_instance.proofs.outbox.Outbox.ends.Goals as goal

pub returns : goal.returns
returns g c = subst (λ (o : OutboxState). AreEnds o.sent o.peers) c.self.view_is c.self.invariant
