-- A look changes nothing.
use Rattle.std.proofs.Common.{◌≡◌, subst, sym}
use Rattle.sdl_interp.specs.Instance.{InstanceValue}
use Rattle.threads_instance.specs.RunBy.{HasRunBy}
use Rattle.threads_instance.specs.ThreadInstance.{HasSent, IsSeated}
use Rattle.threads_instance.proofs.thread_instance.ThreadInstance.ahead.Goals as goal

pub invariant_of-self : goal.invariant_of-self
invariant_of-self g c =
    subst (λ (m : InstanceValue). (m.system ≡ c.self.inside.system.now) × HasSent m c.self.inside.outbox.sent
    × IsSeated g.J.Run.system g.J.Run.ports m
    × HasRunBy g.P.Inbox.shared m c.self.inside.given c.self.inside.doings.effects) (sym c.ahead.ensures.same)
    c.self.invariant
