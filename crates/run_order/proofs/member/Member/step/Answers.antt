use Rattle.std.proofs.Common.{◌≡◌, ◌∙◌, [], ap, false, length, refl, subst, true}
use Rattle.port_model.specs.Ends.{OwnerState}
use Rattle.run_order.proofs.Steps.{ended_by, finished, moved_on, never_amiss}
use Rattle.run_order.proofs.Waiting.{idle_rests, idle_same}
use Rattle.run_order.proofs.member.Member.step.Goals as goal
use Rattle.run_order.specs.ReplayWorld.{world_of, world_with}
use Rattle.run_order.specs.declared.member.Move.TheVariants as move
use Rattle.sdl_interp.specs.Instance.{IsIdle, Moves}

pub returns-in-Idle-clause-moves : goal.returns-in-Idle-clause-moves
returns-in-Idle-clause-moves c =
    let old = c.args.self.now in
    let new = c.step-stepped.new.self in
    let w = world_of c.new-world.result in
    let v = world_of c.step-stepped.new.world in
    let keeps = c.step-stepped.ensures.keeps in
    let idle : IsIdle old.instance w new v = c.in-Idle.ensures.steps in (
      λ d is_run i. record old {
        instance = idle_same d old.instance new w v is_run keeps idle c.draws_nothing.ensures
            c.draws_nothing-2.ensures i;
      },
      refl,
      idle_rests old.instance new w v keeps idle,
    )

pub returns-in-Moved-clause-moves : goal.returns-in-Moved-clause-moves
returns-in-Moved-clause-moves c =
    let old = c.args.self.now in
    let new = c.step-stepped.new.self in
    let w = world_of c.new-world.result in
    let v = world_of c.step-stepped.new.world in
    let a = c.new-world.ensures in
    let sees : w ≡ world_with c.args.system.now c.args.clock [] =
    λ i. world_with (a.system i) (a.clock i) ((a.effects ∙ c.clear.ensures.items) i) in
    let from : c.len-from.result ≡ length old.instance.events = c.len-from.ensures ∙ ap length c.trace.ensures.events in
    let undrawn : new.owner.drawn ≡ [] = ap (λ (o : OwnerState). o.drawn) c.draws_nothing-2.ensures in
    let performed = c.step-stepped.new.world.effects.now.items in
    let moves : Moves true old.instance w new v = c.in-Moved.ensures.steps.0 in
    finished c.finish.result move.Began _ _ c.args.system.now c.args.clock old c.finish.new.self c.finish.ensures.made
    (never_amiss true c.args.system.now c.args.clock c.len-from.result performed old new w v sees moves refl from)
    (moved_on true c.args.system.now c.args.clock c.len-from.result performed old c.finish.new.self new w v sees
    moves refl undrawn from c.finish.ensures.instance)

pub returns-then-counts-clause-moves : goal.returns-then-counts-clause-moves
returns-then-counts-clause-moves c =
    let old = c.args.self.now in
    let new = c.step-stepped.new.self in
    let w = world_of c.new-world.result in
    let v = world_of c.step-stepped.new.world in
    let a = c.new-world.ensures in
    let sees : w ≡ world_with c.args.system.now c.args.clock [] =
    λ i. world_with (a.system i) (a.clock i) ((a.effects ∙ c.clear.ensures.items) i) in
    let from : c.len-from.result ≡ length old.instance.events = c.len-from.ensures ∙ ap length c.trace.ensures.events in
    let undrawn : new.owner.drawn ≡ [] = ap (λ (o : OwnerState). o.drawn) c.draws_nothing-2.ensures in
    let performed = c.step-stepped.new.world.effects.now.items in
    let moves : Moves true old.instance w new v =
    subst (λ b. Moves b old.instance w new v) c.if-counts.true
    (ended_by c.in-Ended.counts old.instance new w v c.requires.lives c.in-Ended.ensures.steps) in
    finished c.finish-then-counts.result move.Began _ _ c.args.system.now c.args.clock old
    c.finish-then-counts.new.self c.finish-then-counts.ensures.made
    (never_amiss true c.args.system.now c.args.clock c.len-from.result performed old new w v sees moves refl from)
    (moved_on true c.args.system.now c.args.clock c.len-from.result performed old c.finish-then-counts.new.self new w
    v sees
    moves refl undrawn from c.finish-then-counts.ensures.instance)

pub returns-else-counts-clause-moves : goal.returns-else-counts-clause-moves
returns-else-counts-clause-moves c =
    let old = c.args.self.now in
    let new = c.step-stepped.new.self in
    let w = world_of c.new-world.result in
    let v = world_of c.step-stepped.new.world in
    let a = c.new-world.ensures in
    let sees : w ≡ world_with c.args.system.now c.args.clock [] =
    λ i. world_with (a.system i) (a.clock i) ((a.effects ∙ c.clear.ensures.items) i) in
    let from : c.len-from.result ≡ length old.instance.events = c.len-from.ensures ∙ ap length c.trace.ensures.events in
    let undrawn : new.owner.drawn ≡ [] = ap (λ (o : OwnerState). o.drawn) c.draws_nothing-2.ensures in
    let performed = c.step-stepped.new.world.effects.now.items in
    let moves : Moves false old.instance w new v =
    subst (λ b. Moves b old.instance w new v) c.if-counts.false
    (ended_by c.in-Ended.counts old.instance new w v c.requires.lives c.in-Ended.ensures.steps) in
    finished c.finish-in-Ended.result move.Failing _ _ c.args.system.now c.args.clock old c.finish-in-Ended.new.self
    c.finish-in-Ended.ensures.made
    (never_amiss false c.args.system.now c.args.clock c.len-from.result performed old new w v sees moves refl from)
    (moved_on false c.args.system.now c.args.clock c.len-from.result performed old c.finish-in-Ended.new.self new w v
    sees
    moves refl undrawn from c.finish-in-Ended.ensures.instance)
