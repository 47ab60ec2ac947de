use Rattle.std.proofs.Common.{◌≡◌, ◌∙◌, ◌++◌, ◌∷◌, [], All, List, Some, false, length, map, refl, rules, slice_get, subst, sym}
use Rattle.std.proofs.lemmas.Iterator.Adapters.{YieldsList-from_vec}
use Rattle.std.proofs.lemmas.Iterator.Consumers.{YieldsList-end, YieldsList-turn}
use Rattle.std.proofs.lemmas.List.{map-id}
use Rattle.std.proofs.lemmas.Option.{slice_get_read}
use Rattle.std.specs.List.{AllZip}
use Rattle.run_order.proofs.Closings.{all_of_system, closed_push, closes_all}
use Rattle.run_order.proofs.Living.{get-map}
use Rattle.run_order.proofs.Meanings.{all_at}
use Rattle.run_order.proofs.Orders.{order_is}
use Rattle.run_order.proofs.replay.Replay.close.Goals as goal
use Rattle.run_order.specs.OneOrder.{instances_of}
use Rattle.run_order.specs.OrderState.{OrderState}
use Rattle.run_order.specs.declared.member.Member.{Member}
use Rattle.run_semantics.specs.Behaves.{AreBehaviours}
use Rattle.sdl_interp.specs.Instance.{IsAtRest, IsClosed}
use Rattle.serial_order.specs.Report.{Closes}

-- the next one is one of them
pub close-requires : goal.close-requires
close-requires c = λ whole.
    let members = c.self.inside.members.items in
    let place = length c.loop-member.yielded in
    let m = c.in-Some.member in
    let started = c.into_iter-member-iterator.ensures.into_iter_gives in
    let turn = YieldsList-turn (YieldsList-from_vec members started.0 (started.1 ∙ c.self.inside.members.ok.0))
    c.loop-member.yielded c.loop-member.member-iterator c.loop-member.yielded_by c.next.result c.next.new.self m
    c.in-Some.is c.next.ensures.steps in
    let there : slice_get members place ≡ Some m = slice_get_read members (length members) place m refl turn.0 turn.1 in
    let rest : All IsAtRest (map (λ (m : Member). m.instance) members) =
    subst (λ (g : OrderState). All IsAtRest (instances_of g)) (sym (order_is c.self.view_is)) (c.requires whole) in
    all_at IsAtRest (map (λ (m : Member). m.instance) members) place m.instance rest
    (get-map (λ (m : Member). m.instance) members place m there)

pub loop-member-preserved : goal.loop-member-preserved
loop-member-preserved c =
    let yielded = c.loop-member.yielded in
    let records = c.loop-member.records.items in
    let m = c.in-Some.member in
    let trace = c.close.result.trace in
    let pushed : c.push.new.self.items ≡ records ++ trace ∷ [] = search rules in
    subst (λ all. AllZip (IsClosed false c.args.whole) (map (λ (m : Member). m.instance) (yielded ++ m ∷ [])) all)
    (sym pushed)
    (closed_push c.args.whole yielded records m trace c.loop-member.invariant c.close.ensures.closed)

pub returns : goal.returns
returns c = λ ps behaviours.
    let i = c.self.inside in
    let members = i.members.items in
    let records = c.loop-member.records.items in
    let started = c.into_iter-member-iterator.ensures.into_iter_gives in
    let end = YieldsList-end (YieldsList-from_vec members started.0 (started.1 ∙ i.members.ok.0)) c.loop-member.yielded
    c.loop-member.member-iterator c.loop-member.yielded_by c.next.result c.next.new.self c.in-None.is
    c.next.ensures.steps in
    let all : c.loop-member.yielded ≡ members = sym (map-id c.loop-member.yielded) ∙ end.0 in
    subst (λ (g : OrderState). AllZip (Closes ps c.args.whole) (instances_of g) records) (order_is c.self.view_is)
    (closes_all ps i.system.now c.args.whole
    (subst (λ (g : OrderState). AreBehaviours g.system ps) (sym (order_is c.self.view_is)) behaviours) members records
    (all_of_system i.agenda.ready i.system.now members c.self.invariant)
    (subst (λ (xs : List Member). AllZip (IsClosed false c.args.whole) (map (λ (m : Member). m.instance) xs) records)
    all
    c.loop-member.invariant))
