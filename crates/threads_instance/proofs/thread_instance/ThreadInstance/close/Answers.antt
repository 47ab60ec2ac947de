-- What closes the record sends nothing.
use Rattle.std.proofs.Common.{subst, sym}
use Rattle.sdl_interp.specs.Instance.{IsRunAs}
use Rattle.threads_instance.proofs.Leaving.{closed_peers, has_put}
use Rattle.threads_instance.specs.ThreadInstance.{ThreadInstanceState}
use Rattle.threads_instance.proofs.thread_instance.ThreadInstance.close.Goals as goal

pub returns-clause-last : goal.returns-clause-last
returns-clause-last g c = λ d is_run.
    closed_peers g.P.Inbox.shared c.args.whole c.self.inside.instance c.close-trace.result.trace c.into_peers.result
    c.close-trace.ensures.closed
    (has_put c.self.inside.instance c.self.inside.outbox.sent c.into_peers.result c.into_peers.ensures.ends
    c.self.invariant.1) d
    (subst (λ (m : ThreadInstanceState). IsRunAs m.instance d) (sym c.self.view_is) is_run)
