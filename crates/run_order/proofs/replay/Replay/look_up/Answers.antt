use Rattle.std.proofs.Common.{◌≡◌, ◌∙◌, ◌<◌, ◌∷◌, Some, ap, inl, length, refl, set, slice_get, subst, sym, true}
use Rattle.std.proofs.lemmas.Option.{slice_get_read}
use Rattle.run_order.proofs.Happenings.{leads_may_look, no_look_at, no_look_nobody}
use Rattle.run_order.proofs.Keeping.{kept_stepped, noted_pending, same_there}
use Rattle.run_order.proofs.Timing.{not_so}
use Rattle.run_order.proofs.Orders.{order_is}
use Rattle.run_order.proofs.replay.Replay.look_up.Goals as goal
use Rattle.run_order.specs.Kept.{MayLookAt, state_with}
use Rattle.run_order.specs.OrderState.{OrderState}
use Rattle.run_order.specs.declared.member.Member.{Member}

pub invariant_of-self : goal.invariant_of-self
invariant_of-self c =
    let i = c.self.inside in
    let members = i.members.items in
    let place = c.in-Some.place in
    let within : place < length members =
    subst (λ (g : OrderState). place < length g.members) (sym (order_is c.self.view_is)) c.in-Some.ensures.some.1 in
    let m = c.index_mut.result.now in
    let there : slice_get members place ≡ Some m =
    slice_get_read members (length members) place m refl within c.index_mut.ensures.value in
    let g : OrderState =
    state_with i.system.now i.agenda.clock i.begun i.members.items i.roster i.agenda.fuses i.script.now i.end in
    let at : MayLookAt g place =
    subst (λ (g : OrderState). MayLookAt g place) (sym (order_is c.self.view_is))
    (c.may_look.ensures.0 c.if-not-may_look.false) in
    let next : m.pending ≡ at.what ∷ at.later =
    ap (λ (m : Member). m.pending) (same_there members place m at.m there at.is_there) ∙ at.next in
    kept_stepped i.agenda.ready i.system.now members c.self.invariant place m there (record m { looked = true })
    (record { system = refl; process = refl; who = refl; port = refl; pid = refl })
    (inl (noted_pending i.agenda.ready i.system.now members c.self.invariant place m there at.what at.later next))

pub returns-clause-leads : goal.returns-clause-leads
returns-clause-leads c =
    let i = c.self.inside in
    let members = i.members.items in
    let place = c.in-Some.place in
    let within : place < length members =
    subst (λ (g : OrderState). place < length g.members) (sym (order_is c.self.view_is)) c.in-Some.ensures.some.1 in
    let m = c.index_mut.result.now in
    let there : slice_get members place ≡ Some m =
    slice_get_read members (length members) place m refl within c.index_mut.ensures.value in
    let g : OrderState =
    state_with i.system.now i.agenda.clock i.begun i.members.items i.roster i.agenda.fuses i.script.now i.end in
    let at : MayLookAt g place =
    subst (λ (g : OrderState). MayLookAt g place) (sym (order_is c.self.view_is))
    (c.may_look.ensures.0 c.if-not-may_look.false) in
    rw (← c.self.view_is)
    (leads_may_look g (record g { members = set members place (record m { looked = true }) }) c.args.number place m at
    there c.in-Some.ensures.some.0 refl)

-- ---- where nothing is looked up

pub returns-in_default-clause-none : goal.returns-in_default-clause-none
returns-in_default-clause-none c = λ is. no_look_nobody c.args.self.now.order c.args.number c.in_default.ensures.none

pub returns-then-not-may_look-clause-none : goal.returns-then-not-may_look-clause-none
returns-then-not-may_look-clause-none c = λ is.
    no_look_at c.args.self.now.order c.args.number c.in-Some.place c.in-Some.ensures.some.0
    (not_so c.may_look.result c.if-not-may_look.true c.may_look.ensures.1)
