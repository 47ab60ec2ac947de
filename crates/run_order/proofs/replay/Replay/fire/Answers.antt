use Rattle.std.proofs.Common.{◌≡◌, ◌∙◌, ◌<◌, Some, length, refl, slice_get, subst, sym}
use Rattle.std.proofs.lemmas.Option.{slice_get_read}
use Rattle.run_order.proofs.Happenings.{expired_nobody, expired_there}
use Rattle.run_order.proofs.Keeping.{expiry_changed, kept_changed}
use Rattle.run_order.proofs.Orders.{order_is}
use Rattle.run_order.proofs.replay.Replay.fire.Goals as goal
use Rattle.run_order.specs.Kept.{state_with}
use Rattle.run_order.specs.OrderState.{OrderState}
use Rattle.serial_run.proofs.Changes.{expiry_is}
use Rattle.serial_order.specs.RunState.{with_expiry}

pub returns-in_default-clause-leads : goal.returns-in_default-clause-leads
returns-in_default-clause-leads c =
    expired_nobody c.args.self.now.order c.args.fuse (rw c.pid-number.ensures at c.in_default.ensures.none)

pub invariant_of-self-then-is_err : goal.invariant_of-self-then-is_err
invariant_of-self-then-is_err c =
    let i = c.self.inside in
    let g : OrderState =
    state_with i.system.now i.agenda.clock i.begun i.members.items i.roster i.agenda.fuses i.script.now i.end in
    let place = c.in-Some.place in
    let m = c.index_mut.result.now in
    let within : place < length i.members.items =
    subst (λ (g : OrderState). place < length g.members) (sym (order_is c.self.view_is)) c.in-Some.ensures.some.1 in
    let there : slice_get i.members.items place ≡ Some m =
    slice_get_read i.members.items (length i.members.items) place m refl within c.index_mut.ensures.value in
    kept_changed i.agenda.ready i.system.now i.members.items c.self.invariant place m there c.wake.new.self
    c.pid-number.result c.expire.new.self c.in-Some.ensures.some.0
    (expiry_changed c.expire.result m.instance c.expire.new.self c.args.fuse i.agenda.clock c.expire.ensures.state)
    c.in_ok-wake.ensures.ok

pub invariant_of-self-2 : goal.invariant_of-self-2
invariant_of-self-2 c =
    let i = c.self.inside in
    let g : OrderState =
    state_with i.system.now i.agenda.clock i.begun i.members.items i.roster i.agenda.fuses i.script.now i.end in
    let place = c.in-Some.place in
    let m = c.index_mut.result.now in
    let within : place < length i.members.items =
    subst (λ (g : OrderState). place < length g.members) (sym (order_is c.self.view_is)) c.in-Some.ensures.some.1 in
    let there : slice_get i.members.items place ≡ Some m =
    slice_get_read i.members.items (length i.members.items) place m refl within c.index_mut.ensures.value in
    kept_changed i.agenda.ready i.system.now i.members.items c.self.invariant place m there c.wake.new.self
    c.pid-number.result c.expire.new.self c.in-Some.ensures.some.0
    (expiry_changed c.expire.result m.instance c.expire.new.self c.args.fuse i.agenda.clock c.expire.ensures.state)
    c.in_ok-wake.ensures.ok

pub returns-clause-leads : goal.returns-clause-leads
returns-clause-leads c =
    let i = c.self.inside in
    let g : OrderState =
    state_with i.system.now i.agenda.clock i.begun i.members.items i.roster i.agenda.fuses i.script.now i.end in
    let place = c.in-Some.place in
    let m = c.index_mut.result.now in
    let within : place < length i.members.items =
    subst (λ (g : OrderState). place < length g.members) (sym (order_is c.self.view_is)) c.in-Some.ensures.some.1 in
    let there : slice_get i.members.items place ≡ Some m =
    slice_get_read i.members.items (length i.members.items) place m refl within c.index_mut.ensures.value in
    let now : c.expire.new.self ≡ with_expiry c.args.fuse i.agenda.clock m.instance =
    expiry_is c.expire.result m.instance c.expire.new.self c.args.fuse i.agenda.clock
    (sym c.is_err.ensures.value ∙ c.if-is_err.false) c.expire.ensures.state in
    rw (← c.self.view_is)
    (expired_there g c.args.fuse place m c.expire.new.self (c.in-Some.ensures.some.0 ∙ c.pid-number.ensures) there now)
