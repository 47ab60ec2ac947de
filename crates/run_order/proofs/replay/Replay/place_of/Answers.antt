use Rattle.std.proofs.Common.{◌≡◌, ◌∙◌, ◌⊎◌, ◌+◌, ◌<◌, length, subst}
use Rattle.std.specs.Prelude.{IfNone, IfSome}
use Rattle.run_order.proofs.Orders.{order_is}
use Rattle.run_order.proofs.replay.Replay.place_of.Goals as goal
use Rattle.run_order.specs.OrderState.{OrderState}

pub returns-clause-some : goal.returns-clause-some
returns-clause-some c =
    let counted : c.len.result ≡ length c.self.inside.members.items = c.len.ensures ∙ c.self.inside.members.ok.0 in
    subst
    (λ (g : OrderState). IfSome c.place_below.result (λ place. (place + 1 ≡ c.args.number) × (place < length
    g.members)))
    (order_is c.self.view_is)
    (subst (λ n. IfSome c.place_below.result (λ place. (place + 1 ≡ c.args.number) × (place < n))) counted
    c.place_below.ensures.some)

pub returns-clause-none : goal.returns-clause-none
returns-clause-none c =
    let counted : c.len.result ≡ length c.self.inside.members.items = c.len.ensures ∙ c.self.inside.members.ok.0 in
    subst
    (λ (g : OrderState). IfNone c.place_below.result ((c.args.number ≡ 0) ⊎ (length g.members < c.args.number)))
    (order_is c.self.view_is)
    (subst (λ n. IfNone c.place_below.result ((c.args.number ≡ 0) ⊎ (n < c.args.number))) counted
    c.place_below.ensures.none)
