-- The type says so.
use Rattle.std.proofs.Common.{subst}
use Rattle.threads_instance.proofs.Leaving.{has_put}
use Rattle.threads_instance.specs.ThreadInstance.{HasPut, HasSent, ThreadInstanceState}
use Rattle.threads_instance.proofs.thread_instance.ThreadInstance.has_put.Goals as goal

pub returns-clause-sent : goal.returns-clause-sent
returns-clause-sent g c = subst (λ (m : ThreadInstanceState). HasSent m.instance m.sent) c.self.view_is c.self.invariant.1

pub returns-clause-put : goal.returns-clause-put
returns-clause-put g c =
    subst (λ (m : ThreadInstanceState). HasPut m.instance m.peers) c.self.view_is
    (has_put c.self.inside.instance c.self.inside.outbox.sent c.self.inside.outbox.peers c.ends.ensures c.self.invariant.1)
