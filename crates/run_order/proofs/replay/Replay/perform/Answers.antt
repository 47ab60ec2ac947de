use Rattle.std.proofs.Common.{◌≡◌, length, subst, sym}
use Rattle.std.specs.Prelude.{OnOk}
use Rattle.run_order.proofs.Happenings.{left_there, nothing_done}
use Rattle.run_order.proofs.replay.Replay.perform.Goals as goal
use Rattle.run_order.specs.Kept.{IsNextNumber, state_with}
use Rattle.run_order.specs.OrderState.{OrderState, after_pending}
use Rattle.run_order.specs.declared.pending.Pending.{Pending}

pub returns-in-Send-clause-leads : goal.returns-in-Send-clause-leads
returns-in-Send-clause-leads c =
    subst (λ (p : Pending). OnOk c.send.result (c.send.new.self.order ≡ after_pending c.args.self.now.order c.args.who
    p))
    (sym c.in-Send.is) c.send.ensures.leads

pub returns-in-Arm-clause-leads : goal.returns-in-Arm-clause-leads
returns-in-Arm-clause-leads c =
    subst (λ (p : Pending). OnOk c.arm.result (c.arm.new.self.order ≡ after_pending c.args.self.now.order c.args.who p))
    (sym c.in-Arm.is) c.arm.ensures.leads

pub returns-in-Create-clause-leads : goal.returns-in-Create-clause-leads
returns-in-Create-clause-leads c =
    subst (λ (p : Pending). OnOk c.create.result (c.create.new.self.order ≡ after_pending c.args.self.now.order
    c.args.who p))
    (sym c.in-Create.is) c.create.ensures.leads

pub create-requires : goal.create-requires
create-requires c =
    subst (λ (p : Pending). IsNextNumber (length c.args.self.now.order.members) p) c.in-Create.is c.requires

pub returns-in-End-clause-leads : goal.returns-in-End-clause-leads
returns-in-End-clause-leads c =
    let i = c.self.inside in
    let g : OrderState =
    state_with i.system.now i.agenda.clock i.begun i.members.items i.roster i.agenda.fuses i.script.now i.end in
    rw (← c.self.view_is) (left_there g c.args.who c.args.what c.leave.new.self c.in-End.is c.leave.ensures)

pub returns-in_default-clause-leads : goal.returns-in_default-clause-leads
returns-in_default-clause-leads c =
    nothing_done c.args.self.now.order c.args.who c.args.what c.in_default.not-Send c.in_default.not-Arm
    c.in_default.not-Create c.in_default.not-End
