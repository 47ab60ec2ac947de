-- The type says so.
use Rattle.std.proofs.Common.{subst}
use Rattle.threads_instance.specs.Outbox.{AreEnds, OutboxState}
use Rattle.threads_instance.proofs.outbox.Outbox.into_peers.Goals as goal

pub returns-clause-ends : goal.returns-clause-ends
returns-clause-ends g c = subst (λ (o : OutboxState). AreEnds o.sent c.self.inside.peers) c.self.view_is c.self.invariant
