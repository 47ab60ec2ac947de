use Rattle.std.specs.Prelude.{IfNone, IfSome}
use Rattle.run_order.proofs.Reading.{still_behind, still_between}
use Rattle.run_order.proofs.Orders.{first_behind, noted_is, order_is}
use Rattle.run_order.proofs.replay.Replay.next_noted.Goals as goal
use Rattle.run_order.specs.Kept.{AreStillBehind, AreStillBetween, state_with}
use Rattle.run_order.specs.Noted.{IsFirstBehind, IsNobodyBehind}
use Rattle.run_order.specs.OrderState.{OrderState}
use Rattle.std.proofs.Common.{subst}

pub returns-clause-next : goal.returns-clause-next
returns-clause-next c =
    subst (λ noted. IfSome c.next_after.result (IsFirstBehind noted c.args.behind)) (noted_is c.self.view_is)
    (first_behind c.self.inside.agenda.ready c.args.behind c.next_after.result c.next_after.ensures.next
    c.next_after.ensures.least)

pub returns-clause-nobody : goal.returns-clause-nobody
returns-clause-nobody c =
    subst (λ noted. IfNone c.next_after.result (IsNobodyBehind noted c.args.behind)) (noted_is c.self.view_is)
    c.next_after.ensures.none

pub returns-clause-between : goal.returns-clause-between
returns-clause-between c =
    let i = c.self.inside in
    let g : OrderState =
    state_with i.system.now i.agenda.clock i.begun i.members.items i.roster i.agenda.fuses i.script.now i.end in
    subst (λ (g : OrderState). IfSome c.next_after.result (AreStillBetween g c.args.behind)) (order_is c.self.view_is)
    (still_between i.agenda.ready g c.args.behind c.next_after.result c.self.invariant c.next_after.ensures.least)

pub returns-clause-none : goal.returns-clause-none
returns-clause-none c =
    let i = c.self.inside in
    let g : OrderState =
    state_with i.system.now i.agenda.clock i.begun i.members.items i.roster i.agenda.fuses i.script.now i.end in
    subst (λ (g : OrderState). IfNone c.next_after.result (AreStillBehind g c.args.behind)) (order_is c.self.view_is)
    (still_behind i.agenda.ready g c.args.behind c.next_after.result c.self.invariant c.next_after.ensures.none)
