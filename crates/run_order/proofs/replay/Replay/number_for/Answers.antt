use Rattle.std.proofs.Common.{◌≡◌, ◌∙◌, ◌+◌, Some, None, ap, if◌then◌else◌, length, nat_le, sym}
use Rattle.run_order.proofs.Happenings.{number_full, number_next}
use Rattle.run_order.proofs.Orders.{order_is}
use Rattle.run_order.proofs.replay.Replay.number_for.Goals as goal
use Rattle.run_order.specs.OrderState.{OrderState}
use Rattle.run_semantics.specs.World.{most_instances}

pub returns-then-is_full : goal.returns-then-is_full
returns-then-is_full c =
    number_full c.args.self.now.order c.args.process (sym c.is_full.ensures ∙ c.if-is_full.true)

pub returns : goal.returns
returns c =
    let counted : c.len.result ≡ length c.args.self.now.order.members =
    c.len.ensures ∙ c.self.inside.members.ok.0 ∙ ap (λ (g : OrderState). length g.members) (order_is c.self.view_is) in
    number_next c.args.self.now.order c.args.process c.next_number.result (sym c.is_full.ensures ∙ c.if-is_full.false)
    (c.next_number.ensures ∙ ap (λ n. if nat_le most_instances n then None else Some (n + 1)) counted)
