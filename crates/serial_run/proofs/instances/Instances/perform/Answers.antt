use Rattle.std.proofs.Common.{◌+◌, ◌∷◌, [], subst, sym}
use Rattle.std.proofs.lemmas.Result.{on_ok_weaker}
use Rattle.run_semantics.specs.Effect.{Create}
use Rattle.serial_run.specs.StepWorld.{AreNumbered, effect_of}
use Rattle.serial_run.specs.declared.world.effect.Effect.{Effect}
use Rattle.serial_order.specs.RunState.{RunState, after_effect, sent_to}
use Rattle.serial_run.proofs.Thinning.{thinned_created, thinned_sent}
use Rattle.serial_run.specs.Serial.{state_of}
use Rattle.serial_run.specs.Thinned.{IsThinned}
use Rattle.serial_sweeps.specs.Sweeps.{at_agenda}
use Rattle.serial_run.proofs.instances.Instances.perform.Goals as goal

pub returns-in-Send-clause-state : goal.returns-in-Send-clause-state
returns-in-Send-clause-state c = λ m g thinned.
    let h : RunState = state_of (at_agenda m c.args.agenda.now) c.args.self.now in
    let to : RunState = state_of (at_agenda m c.send.new.agenda) c.send.new.self in
    on_ok_weaker c.send.result
    (λ now numbered. subst (λ (effect : Effect). IsThinned (after_effect g (effect_of effect)) to) (sym c.in-Send.is)
    (subst (λ (k : RunState). IsThinned (sent_to g c.in-Send.target c.in-Send.item) k) (sym now)
    (thinned_sent g h c.in-Send.target c.in-Send.item thinned)))
    (c.send.ensures.state m)

pub returns-in-Arm-clause-state : goal.returns-in-Arm-clause-state
returns-in-Arm-clause-state c = λ m g thinned.
    let to : RunState = state_of (at_agenda m c.arm.new.agenda) c.arm.new.self in
    on_ok_weaker c.arm.result
    (λ now numbered. subst (λ (effect : Effect). IsThinned (after_effect g (effect_of effect)) to) (sym c.in-Arm.is) now)
    (c.arm.ensures.state m g thinned)

pub returns-in-Create-clause-state : goal.returns-in-Create-clause-state
returns-in-Create-clause-state c = λ m g thinned.
    let given = c.args.self.now.living.given in
    let h : RunState = state_of (at_agenda m c.args.agenda.now) c.args.self.now in
    let to : RunState = state_of (at_agenda m c.create.new.agenda) c.create.new.self in
    let id = c.in-Create.process in
    let parent = c.in-Create.parent in
    let values = c.in-Create.values in
    on_ok_weaker c.create.result
    (λ now. subst (λ (effect : Effect). AreNumbered given (effect_of effect ∷ [])
    → IsThinned (after_effect g (effect_of effect)) to) (sym c.in-Create.is)
    (λ numbered. subst (λ n. IsThinned (after_effect g (Create id n parent values)) to) (sym numbered.0)
    (subst (λ (k : RunState). IsThinned (after_effect g (Create id (given + 1) parent values)) k) (sym now)
    (thinned_created g h id (given + 1) parent values thinned))))
    (c.create.ensures.state m)
