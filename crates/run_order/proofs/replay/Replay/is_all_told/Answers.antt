use Rattle.std.proofs.Common.{◌≡◌, ◌∙◌, ◌<◌, ◌≤◌, [], All, List, arith, length, refl, subst, sym}
use Rattle.std.proofs.lemmas.List.{take_all}
use Rattle.std.proofs.lemmas.List.Elements.{All-more}
use Rattle.run_order.proofs.Orders.{order_is}
use Rattle.run_order.proofs.replay.Replay.is_all_told.Goals as goal
use Rattle.run_order.specs.OrderState.{OrderState}
use Rattle.run_order.specs.declared.member.Member.{Member}
use Rattle.run_order.proofs.Happenings.{wrong_way}
use Rattle.run_order.proofs.Timing.{not_so}

-- all that was to be told of it is told
abbrev IsTold : Member → Type 0
IsTold m = m.pending ≡ []

pub loop-member-preserved : goal.loop-member-preserved
loop-member-preserved c =
    let items = c.deref-member-items.result.now in
    let place = c.loop-member.member-index in
    let below : place < length items = omega arith in
    All-more IsTold items place c.member-item.result below c.loop-member.invariant
    (subst IsTold c.member-item.is (c.is_empty.ensures.0 c.if-not-is_empty.false))

pub returns-then-not-is_empty : goal.returns-then-not-is_empty
returns-then-not-is_empty c = (
  λ yes. absurd (wrong_way yes),
  λ all.
      let items = c.deref-member-items.result.now in
      let place = c.loop-member.member-index in
      let below : place < length items = omega arith in
      let each : All IsTold items =
      subst (λ (some : List Member). All IsTold some) (sym c.deref-member-items.ensures.value)
      (subst (λ (g : OrderState). All IsTold g.members) (sym (order_is c.self.view_is)) all) in
      absurd (not_so c.is_empty.result c.if-not-is_empty.true c.is_empty.ensures.1
      (subst IsTold (sym c.member-item.is) (each place c.member-item.result below))),
)

pub returns : goal.returns
returns c = (
  λ yes.
      let items = c.deref-member-items.result.now in
      let place = c.loop-member.member-index in
      let past : length items ≤ place = omega arith in
      subst (λ (g : OrderState). All IsTold g.members) (order_is c.self.view_is)
      (subst (λ (all : List Member). All IsTold all) (take_all place items past ∙ c.deref-member-items.ensures.value)
      c.loop-member.invariant),
  λ all. refl,
)
