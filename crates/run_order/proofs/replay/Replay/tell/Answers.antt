use Rattle.std.proofs.Common.{◌≡◌, ◌<◌, Some, false, inl, length, refl, slice_get, subst, sym}
use Rattle.std.proofs.lemmas.List.{length-set}
use Rattle.std.proofs.lemmas.Option.{slice_get_read}
use Rattle.run_order.proofs.Happenings.{leads_told, may_tell_there, next_number, no_tell_at, no_tell_nobody, nothing_next}
use Rattle.run_order.proofs.Keeping.{kept_stepped, noted_pending}
use Rattle.run_order.proofs.Timing.{not_so}
use Rattle.run_order.proofs.Orders.{order_is}
use Rattle.run_order.proofs.replay.Replay.tell.Goals as goal
use Rattle.run_order.specs.Interleaving.{MayTell}
use Rattle.run_order.specs.Kept.{IsNextNumber, MayTellAt, state_with}
use Rattle.run_order.specs.OrderState.{OrderState}
use Rattle.run_order.specs.declared.member.Member.{Member}

-- there is something to be told
pub invariant_of-self : goal.invariant_of-self
invariant_of-self c =
    let i = c.self.inside in
    let members = i.members.items in
    let place = c.in-Some.place in
    let within : place < length members =
    subst (λ (g : OrderState). place < length g.members) (sym (order_is c.self.view_is)) c.in-Some.ensures.some.1 in
    let m = c.index_mut-member.result.now in
    let there : slice_get members place ≡ Some m =
    slice_get_read members (length members) place m refl within c.index_mut-member.ensures.value in
    let at : MayTellAt (state_with i.system.now i.agenda.clock i.begun members i.roster i.agenda.fuses i.script.now
    i.end)
    place =
    subst (λ (g : OrderState). MayTellAt g place) (sym (order_is c.self.view_is))
    (c.may_tell.ensures.0 c.if-not-may_tell.false) in
    absurd (nothing_next
    (state_with i.system.now i.agenda.clock i.begun members i.roster i.agenda.fuses i.script.now i.end) place m at there
    c.in_default-pop.ensures)

pub returns-in_default-pop-clause-leads : goal.returns-in_default-pop-clause-leads
returns-in_default-pop-clause-leads c =
    let i = c.self.inside in
    let members = i.members.items in
    let place = c.in-Some.place in
    let within : place < length members =
    subst (λ (g : OrderState). place < length g.members) (sym (order_is c.self.view_is)) c.in-Some.ensures.some.1 in
    let m = c.index_mut-member.result.now in
    let there : slice_get members place ≡ Some m =
    slice_get_read members (length members) place m refl within c.index_mut-member.ensures.value in
    let at : MayTellAt (state_with i.system.now i.agenda.clock i.begun members i.roster i.agenda.fuses i.script.now
    i.end)
    place =
    subst (λ (g : OrderState). MayTellAt g place) (sym (order_is c.self.view_is))
    (c.may_tell.ensures.0 c.if-not-may_tell.false) in
    absurd (nothing_next
    (state_with i.system.now i.agenda.clock i.begun members i.roster i.agenda.fuses i.script.now i.end) place m at there
    c.in_default-pop.ensures)

pub invariant_of-self-2 : goal.invariant_of-self-2
invariant_of-self-2 c =
    let i = c.self.inside in
    let members = i.members.items in
    let place = c.in-Some.place in
    let within : place < length members =
    subst (λ (g : OrderState). place < length g.members) (sym (order_is c.self.view_is)) c.in-Some.ensures.some.1 in
    let m = c.index_mut-member.result.now in
    let there : slice_get members place ≡ Some m =
    slice_get_read members (length members) place m refl within c.index_mut-member.ensures.value in
    let changed : Member = record { instance = m.instance; pending = c.pop.new.self; looked = false } in
    kept_stepped i.agenda.ready i.system.now members c.self.invariant place m there changed
    (record { system = refl; process = refl; who = refl; port = refl; pid = refl })
    (inl (noted_pending i.agenda.ready i.system.now members c.self.invariant place m there _ _ c.in-Some-pop.ensures))

pub perform-requires : goal.perform-requires
perform-requires c =
    let i = c.self.inside in
    let members = i.members.items in
    let place = c.in-Some.place in
    let within : place < length members =
    subst (λ (g : OrderState). place < length g.members) (sym (order_is c.self.view_is)) c.in-Some.ensures.some.1 in
    let g : OrderState =
    state_with i.system.now i.agenda.clock i.begun i.members.items i.roster i.agenda.fuses i.script.now i.end in
    let m = c.index_mut-member.result.now in
    let there : slice_get members place ≡ Some m =
    slice_get_read members (length members) place m refl within c.index_mut-member.ensures.value in
    let at : MayTellAt g place =
    subst (λ (g : OrderState). MayTellAt g place) (sym (order_is c.self.view_is))
    (c.may_tell.ensures.0 c.if-not-may_tell.false) in
    let may : MayTell g m.looked c.in-Some-pop.what =
    may_tell_there g place m c.in-Some-pop.what c.pop.new.self at there c.in-Some-pop.ensures in
    let changed : Member = record { instance = m.instance; pending = c.pop.new.self; looked = false } in
    subst (λ n. IsNextNumber n c.in-Some-pop.what) (sym (length-set members place changed))
    (next_number g m.looked c.in-Some-pop.what may)

pub returns-clause-leads : goal.returns-clause-leads
returns-clause-leads c =
    let i = c.self.inside in
    let members = i.members.items in
    let place = c.in-Some.place in
    let within : place < length members =
    subst (λ (g : OrderState). place < length g.members) (sym (order_is c.self.view_is)) c.in-Some.ensures.some.1 in
    let g : OrderState =
    state_with i.system.now i.agenda.clock i.begun i.members.items i.roster i.agenda.fuses i.script.now i.end in
    let m = c.index_mut-member.result.now in
    let there : slice_get members place ≡ Some m =
    slice_get_read members (length members) place m refl within c.index_mut-member.ensures.value in
    let at : MayTellAt g place =
    subst (λ (g : OrderState). MayTellAt g place) (sym (order_is c.self.view_is))
    (c.may_tell.ensures.0 c.if-not-may_tell.false) in
    let may : MayTell g m.looked c.in-Some-pop.what =
    may_tell_there g place m c.in-Some-pop.what c.pop.new.self at there c.in-Some-pop.ensures in
    let changed : Member = record { instance = m.instance; pending = c.pop.new.self; looked = false } in
    rw (← c.self.view_is)
    (leads_told g c.perform.new.self.order c.args.number place m changed c.in-Some-pop.what c.pop.new.self there
    c.in-Some.ensures.some.0 c.in-Some-pop.ensures may refl
    (rw c.who-who.ensures at c.in_ok-perform.ensures.leads))

-- ---- where nothing is told

pub returns-in_default-clause-none : goal.returns-in_default-clause-none
returns-in_default-clause-none c = λ is. no_tell_nobody c.args.self.now.order c.args.number c.in_default.ensures.none

pub returns-then-not-may_tell-clause-none : goal.returns-then-not-may_tell-clause-none
returns-then-not-may_tell-clause-none c = λ is.
    no_tell_at c.args.self.now.order c.args.number c.in-Some.place c.in-Some.ensures.some.0
    (not_so c.may_tell.result c.if-not-may_tell.true c.may_tell.ensures.1)

pub returns-in_default-pop-clause-none : goal.returns-in_default-pop-clause-none
returns-in_default-pop-clause-none c =
    let i = c.self.inside in
    let members = i.members.items in
    let place = c.in-Some.place in
    let within : place < length members =
    subst (λ (g : OrderState). place < length g.members) (sym (order_is c.self.view_is)) c.in-Some.ensures.some.1 in
    let m = c.index_mut-member.result.now in
    let there : slice_get members place ≡ Some m =
    slice_get_read members (length members) place m refl within c.index_mut-member.ensures.value in
    let at : MayTellAt (state_with i.system.now i.agenda.clock i.begun members i.roster i.agenda.fuses i.script.now
    i.end)
    place =
    subst (λ (g : OrderState). MayTellAt g place) (sym (order_is c.self.view_is))
    (c.may_tell.ensures.0 c.if-not-may_tell.false) in
    absurd (nothing_next
    (state_with i.system.now i.agenda.clock i.begun members i.roster i.agenda.fuses i.script.now i.end) place m at there
    c.in_default-pop.ensures)
