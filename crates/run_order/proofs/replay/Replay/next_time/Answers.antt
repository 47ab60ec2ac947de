use Rattle.std.proofs.Common.{subst}
use Rattle.std.specs.Prelude.{ℕ, MatchOption}
use Rattle.run_order.proofs.Happenings.{next_by}
use Rattle.run_order.proofs.Orders.{order_is}
use Rattle.run_order.proofs.replay.Replay.next_time.Goals as goal
use Rattle.run_order.specs.Kept.{IsNextTime, state_with}
use Rattle.run_order.specs.OrderState.{OrderState}

pub returns : goal.returns
returns c =
    let i = c.self.inside in
    let g : OrderState =
    state_with i.system.now i.agenda.clock i.begun i.members.items i.roster i.agenda.fuses i.script.now i.end in
    subst
    (λ (g : OrderState). MatchOption c.sooner.result ((time : ℕ) → IsNextTime g time → ⊥) (IsNextTime g))
    (order_is c.self.view_is)
    (next_by c.sooner.result g c.next_due.result c.next_due.ensures c.sooner.ensures)
