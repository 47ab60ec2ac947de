use Rattle.std.proofs.Common.{◌≡◌, ◌∙◌, ◌+◌, ◌++◌, ◌∷◌, [], ap, arith, length, rules, subst, sym}
use Rattle.port_model.specs.Ends.{single}
use Rattle.port_model.specs.declared.values.pid.Pid.TheVariants.{Of}
use Rattle.run_order.proofs.Happenings.{created_none, created_there}
use Rattle.run_order.proofs.Keeping.{kept_entered, kept_woken}
use Rattle.run_order.proofs.Orders.{order_is}
use Rattle.run_order.proofs.replay.Replay.create.Goals as goal
use Rattle.run_order.specs.Kept.{AreKept, state_with}
use Rattle.run_order.specs.OrderState.{OrderState, fresh}
use Rattle.run_order.specs.declared.member.Member.{Member}
use Rattle.sdl_interp.specs.Instance.{created}
use Rattle.serial_order.specs.RunState.{instance_of}

pub returns-in_default-clause-leads : goal.returns-in_default-clause-leads
returns-in_default-clause-leads c =
    let i = c.self.inside in
    let g : OrderState =
    state_with i.system.now i.agenda.clock i.begun i.members.items i.roster i.agenda.fuses i.script.now i.end in
    rw (← c.self.view_is)
    (created_none g c.args.id c.args.number c.args.parent c.args.values.now (sym c.in_default.ensures))

pub invariant_of-self-in_err-push : goal.invariant_of-self-in_err-push
invariant_of-self-in_err-push c =
    let i = c.self.inside in
    let same : c.push.new.self.items ≡ i.members.items = search rules in
    subst (AreKept c.wake.new.self i.system.now) (sym same)
    (kept_woken i.agenda.ready c.wake.new.self i.system.now i.members.items c.args.number c.self.invariant
    (omega (arith, c.requires)) c.in_ok-wake.ensures.ok)

pub invariant_of-self-in_err-enter : goal.invariant_of-self-in_err-enter
invariant_of-self-in_err-enter c =
    let i = c.self.inside in
    let port = c.new-inbox.result in
    let made : c.in-Ok.instance ≡ instance_of i.system.now c.in-Some.process.now
    (record { process = c.args.id; pid = c.args.number; parent = Of c.args.parent }) c.args.values.now =
    c.in-Ok.ensures
    ∙ ap (λ a. created i.system.now c.in-Some.process.now
    (record { process = c.args.id; pid = c.args.number; parent = Of c.args.parent }) c.args.values.now
    (single a.pid a.state a.armed)) c.new-inbox.ensures in
    let next : c.args.number ≡ length i.members.items + 1 =
    subst (λ (g : OrderState). c.args.number ≡ length g.members + 1) (sym (order_is c.self.view_is)) c.requires in
    let pushed : c.push.new.self.items ≡ i.members.items ++ c.fresh.result ∷ [] = search rules in
    subst (AreKept c.wake.new.self i.system.now) (sym pushed)
    (kept_entered i.agenda.ready c.wake.new.self i.system.now i.members.items c.self.invariant c.args.id c.args.number
    (Of c.args.parent) c.args.values.now c.in-Some.process.now c.in-Ok.instance c.fresh.result (sym c.in-Some.ensures)
    made c.fresh.ensures next c.in_ok-wake.ensures.ok)

pub invariant_of-self-2 : goal.invariant_of-self-2
invariant_of-self-2 c =
    let i = c.self.inside in
    let port = c.new-inbox.result in
    let made : c.in-Ok.instance ≡ instance_of i.system.now c.in-Some.process.now
    (record { process = c.args.id; pid = c.args.number; parent = Of c.args.parent }) c.args.values.now =
    c.in-Ok.ensures
    ∙ ap (λ a. created i.system.now c.in-Some.process.now
    (record { process = c.args.id; pid = c.args.number; parent = Of c.args.parent }) c.args.values.now
    (single a.pid a.state a.armed)) c.new-inbox.ensures in
    let next : c.args.number ≡ length i.members.items + 1 =
    subst (λ (g : OrderState). c.args.number ≡ length g.members + 1) (sym (order_is c.self.view_is)) c.requires in
    let pushed : c.push.new.self.items ≡ i.members.items ++ c.fresh.result ∷ [] = search rules in
    subst (AreKept c.wake.new.self i.system.now) (sym pushed)
    (kept_entered i.agenda.ready c.wake.new.self i.system.now i.members.items c.self.invariant c.args.id c.args.number
    (Of c.args.parent) c.args.values.now c.in-Some.process.now c.in-Ok.instance c.fresh.result (sym c.in-Some.ensures)
    made c.fresh.ensures next c.in_ok-wake.ensures.ok)

pub returns-clause-leads : goal.returns-clause-leads
returns-clause-leads c =
    let i = c.self.inside in
    let g : OrderState =
    state_with i.system.now i.agenda.clock i.begun i.members.items i.roster i.agenda.fuses i.script.now i.end in
    let port = c.new-inbox.result in
    let made : c.in-Ok.instance ≡ instance_of i.system.now c.in-Some.process.now
    (record { process = c.args.id; pid = c.args.number; parent = Of c.args.parent }) c.args.values.now =
    c.in-Ok.ensures
    ∙ ap (λ a. created i.system.now c.in-Some.process.now
    (record { process = c.args.id; pid = c.args.number; parent = Of c.args.parent }) c.args.values.now
    (single a.pid a.state a.armed)) c.new-inbox.ensures in
    let pushed : c.push.new.self.items ≡ i.members.items ++ fresh c.in-Ok.instance ∷ [] =
    subst (λ (m : Member). c.push.new.self.items ≡ i.members.items ++ m ∷ []) c.fresh.ensures (search rules) in
    rw (← c.self.view_is)
    (rw pushed
    (created_there g c.args.id c.args.number c.args.parent c.args.values.now c.in-Some.process.now c.in-Ok.instance
    c.enter.new.self (sym c.in-Some.ensures) made c.in_ok-enter.ensures))
