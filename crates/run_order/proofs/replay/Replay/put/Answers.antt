use Rattle.std.proofs.Common.{◌≡◌, ◌∙◌, ◌<◌, Some, length, refl, slice_get, subst, sym}
use Rattle.std.proofs.lemmas.Option.{slice_get_read}
use Rattle.run_order.proofs.Happenings.{sent_nobody, sent_there}
use Rattle.run_order.proofs.Keeping.{kept_changed, put_changed}
use Rattle.run_order.proofs.Orders.{order_is}
use Rattle.run_order.proofs.replay.Replay.put.Goals as goal
use Rattle.run_order.specs.Kept.{state_with}
use Rattle.run_order.specs.OrderState.{OrderState}
use Rattle.serial_run.proofs.Changes.{put_is}
use Rattle.serial_order.specs.RunState.{with_put}

pub returns-in_default-clause-leads : goal.returns-in_default-clause-leads
returns-in_default-clause-leads c = sent_nobody c.args.self.now.order c.args.number c.args.item
    c.in_default.ensures.none

pub invariant_of-self-then-is_err : goal.invariant_of-self-then-is_err
invariant_of-self-then-is_err c =
    let i = c.self.inside in
    let g : OrderState =
    state_with i.system.now i.agenda.clock i.begun i.members.items i.roster i.agenda.fuses i.script.now i.end in
    let place = c.in-Some.place in
    let m = c.index_mut.result.now in
    let within : place < length i.members.items =
    subst (λ (g : OrderState). place < length g.members) (sym (order_is c.self.view_is)) c.in-Some.ensures.some.1 in
    let there : slice_get i.members.items place ≡ Some m =
    slice_get_read i.members.items (length i.members.items) place m refl within c.index_mut.ensures.value in
    kept_changed i.agenda.ready i.system.now i.members.items c.self.invariant place m there c.wake.new.self
    c.args.number
    c.put.new.self c.in-Some.ensures.some.0
    (put_changed c.put.result m.instance c.put.new.self c.args.item c.put.ensures) c.in_ok-wake.ensures.ok

pub invariant_of-self-2 : goal.invariant_of-self-2
invariant_of-self-2 c =
    let i = c.self.inside in
    let g : OrderState =
    state_with i.system.now i.agenda.clock i.begun i.members.items i.roster i.agenda.fuses i.script.now i.end in
    let place = c.in-Some.place in
    let m = c.index_mut.result.now in
    let within : place < length i.members.items =
    subst (λ (g : OrderState). place < length g.members) (sym (order_is c.self.view_is)) c.in-Some.ensures.some.1 in
    let there : slice_get i.members.items place ≡ Some m =
    slice_get_read i.members.items (length i.members.items) place m refl within c.index_mut.ensures.value in
    kept_changed i.agenda.ready i.system.now i.members.items c.self.invariant place m there c.wake.new.self
    c.args.number
    c.put.new.self c.in-Some.ensures.some.0
    (put_changed c.put.result m.instance c.put.new.self c.args.item c.put.ensures) c.in_ok-wake.ensures.ok

pub returns-clause-leads : goal.returns-clause-leads
returns-clause-leads c =
    let i = c.self.inside in
    let g : OrderState =
    state_with i.system.now i.agenda.clock i.begun i.members.items i.roster i.agenda.fuses i.script.now i.end in
    let place = c.in-Some.place in
    let m = c.index_mut.result.now in
    let within : place < length i.members.items =
    subst (λ (g : OrderState). place < length g.members) (sym (order_is c.self.view_is)) c.in-Some.ensures.some.1 in
    let there : slice_get i.members.items place ≡ Some m =
    slice_get_read i.members.items (length i.members.items) place m refl within c.index_mut.ensures.value in
    let now : c.put.new.self ≡ with_put c.args.item m.instance =
    put_is c.put.result m.instance c.put.new.self c.args.item (sym c.is_err.ensures.value ∙ c.if-is_err.false)
    c.put.ensures in
    rw (← c.self.view_is)
    (sent_there g c.args.number place m c.put.new.self c.args.item c.in-Some.ensures.some.0 there now)
