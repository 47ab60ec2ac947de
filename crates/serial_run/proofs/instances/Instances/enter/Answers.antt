use Rattle.std.proofs.Common.{◌≡◌, ◌+◌, refl, ap, ◌∙◌, subst}
use Rattle.port_model.specs.Ends.{single}
use Rattle.serial_run.proofs.Changes.{IsWaked}
use Rattle.serial_run.proofs.Entering.{entering, serial-entered}
use Rattle.serial_run.proofs.instances.Instances.enter.Goals as goal

pub returns-clause-kept : goal.returns-clause-kept
returns-clause-kept c =
    let s = c.args.self.now in
    let i = c.in-Ok.instance in
    let port = c.new-inbox.result in
    let next : c.in-Some.pid ≡ s.living.given + 1 = c.in-Some.ensures.1 ∙ ap (λ n. n + 1) c.given.ensures in
    let enters = entering s.system.now c.args.process.now c.args.id c.in-Some.pid s.living.given c.args.parent
    c.args.values.now (single port.pid port.state port.armed) i c.in-Ok.ensures (ap (λ a. a.pid) c.new-inbox.ensures)
    next c.requires.process in
    serial-entered s _ c.args.agenda.now.ready c.wake.new.self c.args.id i c.requires.serial enters refl c.add.ensures c.in_ok-push.ensures.items
    (subst (λ n. IsWaked n c.args.agenda.now.ready c.wake.new.self) next c.in_ok-wake.ensures.ok)
