-- A step records what it sends, and what it does.
use Rattle.std.proofs.Common.{ap, subst}
use Rattle.sdl_interp.specs.Instance.{Steps}
use Rattle.threads_instance.proofs.RunBy.{steps_by}
use Rattle.threads_instance.proofs.Stepping.{seat_stays, steps_own, steps_sent, system_stays}
use Rattle.threads_instance.specs.Doings.{DoingsState}
use Rattle.threads_instance.specs.Outbox.{OutboxState}
use Rattle.threads_instance.specs.ThreadWorld.{world_of}
use Rattle.threads_instance.specs.ThreadInstance.{ThreadInstanceState}
use Rattle.threads_instance.proofs.thread_instance.ThreadInstance.step.Goals as goal

pub invariant_of-self : goal.invariant_of-self
invariant_of-self g c =
    let old = c.self.inside.instance in
    let new = c.step-stepped.new.self in
    let before = c.self.inside.outbox.sent in
    let first = c.self.inside.doings.effects in
    let world = c.step-stepped.new.world in
    let keeps = c.step-stepped.ensures.keeps in
    let steps : Steps c.step-stepped.result old (world_of old.system c.args.time before first) new
    (world_of old.system c.args.time world.outbox.sent world.doings.effects) =
    steps_own c.step-stepped.result old new c.self.inside.system.now world.system.now c.args.time world.time
    c.replace-outbox.result.sent before world.outbox.sent c.replace-doings.result.effects first world.doings.effects
    c.self.invariant.0 (ap (λ (o : OutboxState). o.sent) c.replace-outbox.ensures.value)
    (ap (λ (d : DoingsState). d.effects) c.replace-doings.ensures.value) c.step-stepped.ensures.steps in (
      system_stays old new c.self.inside.system.now keeps c.self.invariant.0,
      steps_sent old new before world.outbox.sent first world.doings.effects keeps c.self.invariant.1 old.system
          c.args.time c.step-stepped.result steps,
      seat_stays g.J.Run.system g.J.Run.ports old new keeps c.self.invariant.2,
      steps_by g.P.Inbox.shared c.self.inside.given old new before world.outbox.sent first world.doings.effects keeps
          c.self.invariant.3 old.system c.args.time c.step-stepped.result steps,
    )

pub returns-clause-steps : goal.returns-clause-steps
returns-clause-steps g c =
    let new = c.step-stepped.new.self in
    let world = c.step-stepped.new.world in
    subst (λ (m : ThreadInstanceState). Steps c.step-stepped.result m.instance
    (world_of m.instance.system c.args.time m.sent m.effects) new
    (world_of m.instance.system c.args.time world.outbox.sent world.doings.effects)) c.self.view_is
    (steps_own c.step-stepped.result c.self.inside.instance new c.self.inside.system.now world.system.now c.args.time
    world.time c.replace-outbox.result.sent c.self.inside.outbox.sent world.outbox.sent c.replace-doings.result.effects
    c.self.inside.doings.effects world.doings.effects c.self.invariant.0
    (ap (λ (o : OutboxState). o.sent) c.replace-outbox.ensures.value)
    (ap (λ (d : DoingsState). d.effects) c.replace-doings.ensures.value) c.step-stepped.ensures.steps)
