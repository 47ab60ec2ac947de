use Rattle.std.proofs.Common.{None, Some, map, refl, subst, sym}
use Rattle.run_order.proofs.Weaving.{next_own, none_left}
use Rattle.run_order.proofs.pending.next_pending.Goals as goal
use Rattle.run_order.specs.Woven.{IsNextPending}
use Rattle.run_order.specs.declared.act.Act.{Act}
use Rattle.run_order.specs.declared.act.Act.TheVariants as act
use Rattle.run_order.specs.declared.pending.Pending.TheVariants as pending
use Rattle.serial_run.specs.StepWorld.{effect_of}

-- ---- no effect is left

pub returns-in_err-pop_front-in-Send : goal.returns-in_err-pop_front-in-Send
returns-in_err-pop_front-in-Send c =
    let old = c.args.effects.now.items in
    let new = c.pop_front.new.self.items in
    rw c.from_residual.ensures
    (subst (λ (a : Act). IsNextPending a (map effect_of old) None (map effect_of new)) (sym c.in-Send.is)
    (none_left (act.Send c.in-Send.to) old new (λ acts. refl) c.in_err-pop_front-in-Send.ensures.items
    c.in_err-pop_front-in-Send.ensures.none))

pub returns-in_err-pop_front-in-Arm : goal.returns-in_err-pop_front-in-Arm
returns-in_err-pop_front-in-Arm c =
    let old = c.args.effects.now.items in
    let new = c.pop_front-in-Arm.new.self.items in
    rw c.from_residual-in_err-pop_front-in-Arm.ensures
    (subst (λ (a : Act). IsNextPending a (map effect_of old) None (map effect_of new)) (sym c.in-Arm.is)
    (none_left act.Arm old new (λ acts. refl) c.in_err-pop_front-in-Arm.ensures.items
    c.in_err-pop_front-in-Arm.ensures.none))

pub returns-in_err-pop_front-in-Create : goal.returns-in_err-pop_front-in-Create
returns-in_err-pop_front-in-Create c =
    let old = c.args.effects.now.items in
    let new = c.pop_front-in-Create.new.self.items in
    rw c.from_residual-in_err-pop_front-in-Create.ensures
    (subst (λ (a : Act). IsNextPending a (map effect_of old) None (map effect_of new)) (sym c.in-Create.is)
    (none_left act.Create old new (λ acts. refl) c.in_err-pop_front-in-Create.ensures.items
    c.in_err-pop_front-in-Create.ensures.none))

-- ---- the first one is taken

pub returns-in_ok-pop_front-in-Send : goal.returns-in_ok-pop_front-in-Send
returns-in_ok-pop_front-in-Send c =
    let old = c.args.effects.now.items in
    let new = c.pop_front.new.self.items in
    subst (λ (a : Act). IsNextPending a (map effect_of old) c.own_send.result (map effect_of new)) (sym c.in-Send.is)
    (next_own (act.Send c.in-Send.to) old new _ c.own_send.result c.in_ok-pop_front-in-Send.ensures.items
    c.own_send.ensures)

pub returns-in_ok-pop_front-in-Arm : goal.returns-in_ok-pop_front-in-Arm
returns-in_ok-pop_front-in-Arm c =
    let old = c.args.effects.now.items in
    let new = c.pop_front-in-Arm.new.self.items in
    subst (λ (a : Act). IsNextPending a (map effect_of old) c.own_arm.result (map effect_of new)) (sym c.in-Arm.is)
    (next_own act.Arm old new _ c.own_arm.result c.in_ok-pop_front-in-Arm.ensures.items c.own_arm.ensures)

pub returns-in_ok-pop_front-in-Create : goal.returns-in_ok-pop_front-in-Create
returns-in_ok-pop_front-in-Create c =
    let old = c.args.effects.now.items in
    let new = c.pop_front-in-Create.new.self.items in
    subst (λ (a : Act). IsNextPending a (map effect_of old) c.own_create.result (map effect_of new))
    (sym c.in-Create.is)
    (next_own act.Create old new _ c.own_create.result c.in_ok-pop_front-in-Create.ensures.items c.own_create.ensures)

-- ---- no effect is needed

pub returns-in-Full : goal.returns-in-Full
returns-in-Full c =
    let effects = map effect_of c.args.effects.now.items in
    subst (λ (a : Act). IsNextPending a effects (Some (pending.Full c.in-Full.process)) effects) (sym c.in-Full.is)
    (record { goes = λ acts. refl; fit = λ acts. refl })

pub returns-in-End : goal.returns-in-End
returns-in-End c =
    let effects = map effect_of c.args.effects.now.items in
    subst (λ (a : Act). IsNextPending a effects (Some pending.End) effects) (sym c.in-End.is)
    (record { goes = λ acts. refl; fit = λ acts. refl })

pub returns-in-Inside : goal.returns-in-Inside
returns-in-Inside c =
    let effects = map effect_of c.args.effects.now.items in
    subst (λ (a : Act). IsNextPending a effects (Some pending.Inside) effects) (sym c.in-Inside.is)
    (record { goes = λ acts. refl; fit = λ acts. refl })
