-- The type says so.
use Rattle.std.proofs.Common.{subst}
use Rattle.threads_instance.specs.RunBy.{HasRunBy}
use Rattle.threads_instance.specs.ThreadInstance.{ThreadInstanceState}
use Rattle.threads_instance.proofs.thread_instance.ThreadInstance.has_run.Goals as goal

pub returns-clause-run : goal.returns-clause-run
returns-clause-run g c =
    subst (λ (m : ThreadInstanceState). HasRunBy g.P.Inbox.shared m.instance m.given m.effects) c.self.view_is
    c.self.invariant.3
