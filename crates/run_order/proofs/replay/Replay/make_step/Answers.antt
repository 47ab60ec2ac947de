use Rattle.std.proofs.Common.{◌≡◌, ◌≢◌, ◌∙◌, ◌<◌, ℕ, [], Some, ap, length, refl, set, slice_get, subst, sym}
use Rattle.std.proofs.lemmas.Option.{slice_get_read}
use Rattle.std.specs.Prelude.{◌↔◌, Contains}
use Rattle.run_order.proofs.Happenings.{at_number, no_step_due, no_step_nobody, no_step_pending, no_step_rest, nobody_at}
use Rattle.run_order.proofs.Keeping.{kept_moved, kept_off, kept_waiting, same_there}
use Rattle.run_order.proofs.Steps.{made_leads}
use Rattle.run_order.proofs.Timing.{not_so}
use Rattle.run_order.proofs.Waiting.{ended_rests, rested_before}
use Rattle.run_order.proofs.Orders.{noted_is, off_again, order_is}
use Rattle.run_order.proofs.replay.Replay.make_step.Goals as goal
use Rattle.run_order.specs.Interleaving.{IsNothingDue}
use Rattle.run_order.specs.Kept.{IsStill, Waits, state_with}
use Rattle.run_order.specs.OrderState.{OrderState}
use Rattle.run_order.specs.declared.member.Member.{Member}
use Rattle.run_order.specs.declared.member.Move.TheVariants as move
use Rattle.sdl_interp.specs.declared.transitions.machine.Position.TheVariants as at

-- whoever has ended is noted no more
pub invariant_of-self : goal.invariant_of-self
invariant_of-self c =
    let i = c.self.inside in
    let members = i.members.items in
    let place = c.in-Some.place in
    let within : place < length members =
    subst (λ (g : OrderState). place < length g.members) (sym (order_is c.self.view_is)) c.in-Some.ensures.some.1 in
    let one = c.index.result.now in
    let there_one : slice_get members place ≡ Some one =
    slice_get_read members (length members) place one refl within c.index.ensures in
    let two = c.index-2.result.now in
    let there_two : slice_get members place ≡ Some two =
    slice_get_read members (length members) place two refl within c.index-2.ensures in
    let ended : two.instance.position ≡ at.Ended = sym c.position.ensures ∙ c.in-Ended.is in
    let done : two.pending ≡ [] =
    ap (λ (m : Member). m.pending) (same_there members place two one there_two there_one)
    ∙ c.is_empty.ensures.0 c.if-not-is_empty.false in
    kept_off i.agenda.ready i.system.now members c.self.invariant place two there_two c.rest.new.self c.args.number
    c.in-Some.ensures.some.0 (ended_rests two.instance ended, done) c.rest.ensures.left

-- for lack of memory
pub invariant_of-self-in_err-made : goal.invariant_of-self-in_err-made
invariant_of-self-in_err-made c =
    let i = c.self.inside in
    let members = i.members.items in
    let place = c.in-Some.place in
    let within : place < length members =
    subst (λ (g : OrderState). place < length g.members) (sym (order_is c.self.view_is)) c.in-Some.ensures.some.1 in
    let m = c.index_mut.result.now in
    let there : slice_get members place ≡ Some m =
    slice_get_read members (length members) place m refl within c.index_mut.ensures.value in
    kept_moved i.agenda.ready i.system.now members c.self.invariant place m there c.wake.new.self c.args.number
    c.step.new.self c.in-Some.ensures.some.0 c.step.ensures.keeps c.in_ok-wake.ensures.ok

-- there was nothing to do
pub invariant_of-self-in-Nothing : goal.invariant_of-self-in-Nothing
invariant_of-self-in-Nothing c =
    let i = c.self.inside in
    let members = i.members.items in
    let place = c.in-Some.place in
    let within : place < length members =
    subst (λ (g : OrderState). place < length g.members) (sym (order_is c.self.view_is)) c.in-Some.ensures.some.1 in
    let one = c.index.result.now in
    let there_one : slice_get members place ≡ Some one =
    slice_get_read members (length members) place one refl within c.index.ensures in
    let two = c.index-2.result.now in
    let there_two : slice_get members place ≡ Some two =
    slice_get_read members (length members) place two refl within c.index-2.ensures in
    let m = c.index_mut.result.now in
    let there : slice_get members place ≡ Some m =
    slice_get_read members (length members) place m refl within c.index_mut.ensures.value in
    let done : m.pending ≡ [] =
    ap (λ (m : Member). m.pending) (same_there members place m one there there_one)
    ∙ c.is_empty.ensures.0 c.if-not-is_empty.false in
    let waits : Waits m c.step.new.self = rw c.in-Nothing.is at c.in_ok-made.ensures.moves in
    let still : IsStill c.step.new.self = (waits.2, waits.1 ∙ done) in
    kept_waiting i.agenda.ready i.system.now members c.self.invariant place m there c.wake.new.self
    c.rest-in-Nothing.new.self c.args.number c.step.new.self c.in-Some.ensures.some.0 c.step.ensures.keeps
    c.in_ok-wake.ensures.ok still c.rest-in-Nothing.ensures.left

pub returns-in-Nothing-clause-leads : goal.returns-in-Nothing-clause-leads
returns-in-Nothing-clause-leads c =
    let i = c.self.inside in
    let members = i.members.items in
    let place = c.in-Some.place in
    let within : place < length members =
    subst (λ (g : OrderState). place < length g.members) (sym (order_is c.self.view_is)) c.in-Some.ensures.some.1 in
    let one = c.index.result.now in
    let there_one : slice_get members place ≡ Some one =
    slice_get_read members (length members) place one refl within c.index.ensures in
    let two = c.index-2.result.now in
    let there_two : slice_get members place ≡ Some two =
    slice_get_read members (length members) place two refl within c.index-2.ensures in
    let m = c.index_mut.result.now in
    let there : slice_get members place ≡ Some m =
    slice_get_read members (length members) place m refl within c.index_mut.ensures.value in
    let done : m.pending ≡ [] =
    ap (λ (m : Member). m.pending) (same_there members place m one there there_one)
    ∙ c.is_empty.ensures.0 c.if-not-is_empty.false in
    let lives : m.instance.position ≢ at.Ended =
    λ ended. c.in_default-position.not-Ended
    (c.position.ensures ∙ ap (λ (m : Member). m.instance.position) (same_there members place two m there_two there)
    ∙ ended) in
    let g : OrderState =
    state_with i.system.now i.agenda.clock i.begun i.members.items i.roster i.agenda.fuses i.script.now i.end in
    let due : IsNothingDue g =
    subst IsNothingDue (sym (order_is c.self.view_is)) (c.is_nothing_due.ensures.0 c.if-not-is_nothing_due.false) in
    let new = c.step.new.self in
    let waits : Waits m new = rw c.in-Nothing.is at c.in_ok-made.ensures.moves in
    rw (← c.self.view_is)
    (made_leads move.Nothing i.agenda.ready g (record g { members = set members place new }) c.args.number place m new
    c.self.invariant there c.in-Some.ensures.some.0 lives done due c.step.ensures.keeps waits refl)

-- ---- what the step asks for

pub step-requires-clause-done : goal.step-requires-clause-done
step-requires-clause-done c =
    let i = c.self.inside in
    let members = i.members.items in
    let place = c.in-Some.place in
    let within : place < length members =
    subst (λ (g : OrderState). place < length g.members) (sym (order_is c.self.view_is)) c.in-Some.ensures.some.1 in
    let one = c.index.result.now in
    let there_one : slice_get members place ≡ Some one =
    slice_get_read members (length members) place one refl within c.index.ensures in
    let m = c.index_mut.result.now in
    let there : slice_get members place ≡ Some m =
    slice_get_read members (length members) place m refl within c.index_mut.ensures.value in
    ap (λ (m : Member). m.pending) (same_there members place m one there there_one)
    ∙ c.is_empty.ensures.0 c.if-not-is_empty.false

pub step-requires-clause-lives : goal.step-requires-clause-lives
step-requires-clause-lives c =
    let i = c.self.inside in
    let members = i.members.items in
    let place = c.in-Some.place in
    let within : place < length members =
    subst (λ (g : OrderState). place < length g.members) (sym (order_is c.self.view_is)) c.in-Some.ensures.some.1 in
    let two = c.index-2.result.now in
    let there_two : slice_get members place ≡ Some two =
    slice_get_read members (length members) place two refl within c.index-2.ensures in
    let m = c.index_mut.result.now in
    let there : slice_get members place ≡ Some m =
    slice_get_read members (length members) place m refl within c.index_mut.ensures.value in
    λ ended. c.in_default-position.not-Ended
    (c.position.ensures ∙ ap (λ (m : Member). m.instance.position) (same_there members place two m there_two there)
    ∙ ended)

-- it made a step
pub invariant_of-self-in_default-made : goal.invariant_of-self-in_default-made
invariant_of-self-in_default-made c =
    let i = c.self.inside in
    let members = i.members.items in
    let place = c.in-Some.place in
    let within : place < length members =
    subst (λ (g : OrderState). place < length g.members) (sym (order_is c.self.view_is)) c.in-Some.ensures.some.1 in
    let m = c.index_mut.result.now in
    let there : slice_get members place ≡ Some m =
    slice_get_read members (length members) place m refl within c.index_mut.ensures.value in
    kept_moved i.agenda.ready i.system.now members c.self.invariant place m there c.wake.new.self c.args.number
    c.step.new.self c.in-Some.ensures.some.0 c.step.ensures.keeps c.in_ok-wake.ensures.ok

pub returns-clause-leads : goal.returns-clause-leads
returns-clause-leads c =
    let i = c.self.inside in
    let members = i.members.items in
    let place = c.in-Some.place in
    let within : place < length members =
    subst (λ (g : OrderState). place < length g.members) (sym (order_is c.self.view_is)) c.in-Some.ensures.some.1 in
    let one = c.index.result.now in
    let there_one : slice_get members place ≡ Some one =
    slice_get_read members (length members) place one refl within c.index.ensures in
    let two = c.index-2.result.now in
    let there_two : slice_get members place ≡ Some two =
    slice_get_read members (length members) place two refl within c.index-2.ensures in
    let m = c.index_mut.result.now in
    let there : slice_get members place ≡ Some m =
    slice_get_read members (length members) place m refl within c.index_mut.ensures.value in
    let done : m.pending ≡ [] =
    ap (λ (m : Member). m.pending) (same_there members place m one there there_one)
    ∙ c.is_empty.ensures.0 c.if-not-is_empty.false in
    let lives : m.instance.position ≢ at.Ended =
    λ ended. c.in_default-position.not-Ended
    (c.position.ensures ∙ ap (λ (m : Member). m.instance.position) (same_there members place two m there_two there)
    ∙ ended) in
    let g : OrderState =
    state_with i.system.now i.agenda.clock i.begun i.members.items i.roster i.agenda.fuses i.script.now i.end in
    let due : IsNothingDue g =
    subst IsNothingDue (sym (order_is c.self.view_is)) (c.is_nothing_due.ensures.0 c.if-not-is_nothing_due.false) in
    let new = c.step.new.self in
    rw (← c.self.view_is)
    (made_leads c.in_ok-made.made i.agenda.ready g (record g { members = set members place new }) c.args.number place m
    new c.self.invariant there c.in-Some.ensures.some.0 lives done due c.step.ensures.keeps
    c.in_ok-made.ensures.moves refl)

-- ---- where there is no step

pub returns-in_default-clause-none : goal.returns-in_default-clause-none
returns-in_default-clause-none c = λ is. no_step_nobody c.args.self.now.order c.args.number c.in_default.ensures.none

pub returns-then-not-is_nothing_due-clause-none : goal.returns-then-not-is_nothing_due-clause-none
returns-then-not-is_nothing_due-clause-none c = λ is.
    no_step_due c.args.self.now.order c.args.number
    (not_so c.is_nothing_due.result c.if-not-is_nothing_due.true c.is_nothing_due.ensures.1)

pub returns-then-not-is_empty-clause-none : goal.returns-then-not-is_empty-clause-none
returns-then-not-is_empty-clause-none c = λ is.
    let members = c.self.inside.members.items in
    let place = c.in-Some.place in
    let within : place < length members =
    subst (λ (g : OrderState). place < length g.members) (sym (order_is c.self.view_is)) c.in-Some.ensures.some.1 in
    let one = c.index.result.now in
    let there : slice_get members place ≡ Some one =
    slice_get_read members (length members) place one refl within c.index.ensures in
    no_step_pending c.args.self.now.order c.args.number place one c.in-Some.ensures.some.0
    (subst (λ (g : OrderState). slice_get g.members place ≡ Some one) (order_is c.self.view_is) there)
    (not_so c.is_empty.result c.if-not-is_empty.true c.is_empty.ensures.1)

pub returns-in-Ended-clause-none : goal.returns-in-Ended-clause-none
returns-in-Ended-clause-none c = λ is.
    let members = c.self.inside.members.items in
    let place = c.in-Some.place in
    let within : place < length members =
    subst (λ (g : OrderState). place < length g.members) (sym (order_is c.self.view_is)) c.in-Some.ensures.some.1 in
    let two = c.index-2.result.now in
    let there : slice_get members place ≡ Some two =
    slice_get_read members (length members) place two refl within c.index-2.ensures in
    let ended : two.instance.position ≡ at.Ended = sym c.position.ensures ∙ c.in-Ended.is in
    no_step_rest c.args.self.now.order c.args.number place two c.in-Some.ensures.some.0
    (subst (λ (g : OrderState). slice_get g.members place ≡ Some two) (order_is c.self.view_is) there)
    (ended_rests two.instance ended)

pub returns-in-Nothing-clause-none : goal.returns-in-Nothing-clause-none
returns-in-Nothing-clause-none c = λ is.
    let members = c.self.inside.members.items in
    let place = c.in-Some.place in
    let within : place < length members =
    subst (λ (g : OrderState). place < length g.members) (sym (order_is c.self.view_is)) c.in-Some.ensures.some.1 in
    let m = c.index_mut.result.now in
    let there : slice_get members place ≡ Some m =
    slice_get_read members (length members) place m refl within c.index_mut.ensures.value in
    let waits : Waits m c.step.new.self = rw c.in-Nothing.is at c.in_ok-made.ensures.moves in
    no_step_rest c.args.self.now.order c.args.number place m c.in-Some.ensures.some.0
    (subst (λ (g : OrderState). slice_get g.members place ≡ Some m) (order_is c.self.view_is) there)
    (rested_before m c.step.new.self waits)

-- ---- who is noted, where there is no step

pub returns-in_default-clause-noted : goal.returns-in_default-clause-noted
returns-in_default-clause-noted c = λ is m there done due.
    absurd (nobody_at c.args.self.now.order.members c.args.number m c.in_default.ensures.none there)

pub returns-then-not-is_nothing_due-clause-noted : goal.returns-then-not-is_nothing_due-clause-noted
returns-then-not-is_nothing_due-clause-noted c = λ is m there done due.
    absurd (not_so c.is_nothing_due.result c.if-not-is_nothing_due.true c.is_nothing_due.ensures.1 due)

pub returns-then-not-is_empty-clause-noted : goal.returns-then-not-is_empty-clause-noted
returns-then-not-is_empty-clause-noted c = λ is m found done due.
    let members = c.self.inside.members.items in
    let place = c.in-Some.place in
    let within : place < length members =
    subst (λ (g : OrderState). place < length g.members) (sym (order_is c.self.view_is)) c.in-Some.ensures.some.1 in
    let one = c.index.result.now in
    let there : slice_get members place ≡ Some one =
    slice_get_read members (length members) place one refl within c.index.ensures in
    let g : OrderState = c.args.self.now.order in
    let here : slice_get g.members place ≡ Some one =
    subst (λ (g : OrderState). slice_get g.members place ≡ Some one) (order_is c.self.view_is) there in
    let same : one ≡ m =
    same_there g.members place one m here
    (sym (at_number g.members c.args.number place c.in-Some.ensures.some.0) ∙ found) in
    absurd (not_so c.is_empty.result c.if-not-is_empty.true c.is_empty.ensures.1
    (ap (λ (m : Member). m.pending) same ∙ done))

pub returns-in-Ended-clause-noted : goal.returns-in-Ended-clause-noted
returns-in-Ended-clause-noted c = λ is m there done due.
    subst (λ noted. (n : ℕ) → Contains c.rest.new.self n ↔ (Contains noted n × (n ≢ c.args.number)))
    (noted_is c.self.view_is) c.rest.ensures.left

pub returns-in-Nothing-clause-noted : goal.returns-in-Nothing-clause-noted
returns-in-Nothing-clause-noted c = λ is m there done due.
    subst (λ noted. (n : ℕ) → Contains c.rest-in-Nothing.new.self n ↔ (Contains noted n × (n ≢ c.args.number)))
    (noted_is c.self.view_is)
    (off_again c.self.inside.agenda.ready c.wake.new.self c.rest-in-Nothing.new.self c.args.number
    c.in_ok-wake.ensures.ok c.rest-in-Nothing.ensures.left)

pub returns-clause-noted : goal.returns-clause-noted
returns-clause-noted c = λ is. absurd (c.in_default-made.not-Nothing is)
