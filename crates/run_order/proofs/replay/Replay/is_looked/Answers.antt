use Rattle.std.proofs.Common.{◌≡◌, ◌<◌, Some, length, refl, slice_get, subst, sym}
use Rattle.std.proofs.lemmas.Option.{slice_get_read}
use Rattle.run_order.proofs.Reading.{looked_by, not_looked}
use Rattle.run_order.proofs.Orders.{order_is}
use Rattle.run_order.proofs.replay.Replay.is_looked.Goals as goal
use Rattle.run_order.specs.OrderState.{OrderState}

pub returns-in-Some : goal.returns-in-Some
returns-in-Some c =
    let members = c.self.inside.members.items in
    let place = c.in-Some.place in
    let within : place < length members =
    subst (λ (g : OrderState). place < length g.members) (sym (order_is c.self.view_is)) c.in-Some.ensures.some.1 in
    let m = c.index.result.now in
    let there : slice_get c.args.self.now.order.members place ≡ Some m =
    subst (λ (g : OrderState). slice_get g.members place ≡ Some m) (order_is c.self.view_is)
    (slice_get_read members (length members) place m refl within c.index.ensures) in
    looked_by c.args.self.now.order c.args.number place m c.in-Some.ensures.some.0 there

pub returns-in-None : goal.returns-in-None
returns-in-None c = not_looked c.args.self.now.order c.args.number c.in-None.ensures.none
