use Rattle.std.proofs.Common.{All, refl, subst, sym}
use Rattle.run_order.proofs.Closings.{all_at_rest, all_done}
use Rattle.run_order.proofs.Keeping.{all_still}
use Rattle.run_order.proofs.Orders.{order_is, nobody_noted, noted_is}
use Rattle.run_order.proofs.replay.Replay.is_still.Goals as goal
use Rattle.run_order.specs.Interleaving.{IsDoneAndRests}
use Rattle.run_order.specs.OneOrder.{instances_of}
use Rattle.run_order.specs.OrderState.{OrderState}
use Rattle.run_semantics.specs.Behaves.{AreBehaviours}
use Rattle.sdl_interp.specs.Instance.{IsAtRest}
use Rattle.run_order.proofs.Happenings.{wrong_way}
use Rattle.run_order.specs.Noted.{IsNobody}

pub returns-in-None-clause-done : goal.returns-in-None-clause-done
returns-in-None-clause-done c = λ yes ps behaviours.
    let i = c.self.inside in
    subst (λ (g : OrderState). All (IsDoneAndRests ps) g.members) (order_is c.self.view_is)
    (all_done ps i.agenda.ready i.system.now i.members.items
    (subst (λ (g : OrderState). AreBehaviours g.system ps) (sym (order_is c.self.view_is)) behaviours) c.self.invariant
    (all_still i.agenda.ready i.system.now i.members.items c.self.invariant c.in-None.ensures.none))

pub returns-in-None-clause-rest : goal.returns-in-None-clause-rest
returns-in-None-clause-rest c = λ yes.
    let i = c.self.inside in
    subst (λ (g : OrderState). All IsAtRest (instances_of g)) (order_is c.self.view_is)
    (all_at_rest i.members.items
    (all_still i.agenda.ready i.system.now i.members.items c.self.invariant c.in-None.ensures.none))

pub returns-in-Some-clause-noted : goal.returns-in-Some-clause-noted
returns-in-Some-clause-noted c = (
  λ yes. absurd (wrong_way yes),
  λ nobody. absurd (subst IsNobody (sym (noted_is c.self.view_is)) nobody _ c.in-Some.ensures.next.0),
)

pub returns-in-None-clause-noted : goal.returns-in-None-clause-noted
returns-in-None-clause-noted c = (
  λ yes.
      let i = c.self.inside in
      subst IsNobody (noted_is c.self.view_is)
      (nobody_noted i.agenda.ready i.system.now i.members.items c.self.invariant c.in-None.ensures.none),
  λ nobody. refl,
)
