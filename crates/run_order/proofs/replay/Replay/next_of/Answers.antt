use Rattle.std.proofs.Common.{◌≡◌, ◌<◌, Some, length, refl, slice_get, subst, sym}
use Rattle.std.proofs.lemmas.Option.{slice_get_read}
use Rattle.run_order.proofs.Reading.{nothing_stands, stands_by}
use Rattle.run_order.proofs.Orders.{order_is}
use Rattle.run_order.proofs.replay.Replay.next_of.Goals as goal
use Rattle.run_order.specs.OrderState.{OrderState}

pub returns-in_err-place : goal.returns-in_err-place
returns-in_err-place c =
    rw c.from_residual.ensures (nothing_stands c.args.self.now.order c.args.number c.in_err-place.ensures.none)

pub returns : goal.returns
returns c =
    let members = c.self.inside.members.items in
    let place = c.in_ok-place.place in
    let within : place < length members =
    subst (λ (g : OrderState). place < length g.members) (sym (order_is c.self.view_is)) c.in_ok-place.ensures.some.1 in
    let m = c.index.result.now in
    let there : slice_get c.args.self.now.order.members place ≡ Some m =
    subst (λ (g : OrderState). slice_get g.members place ≡ Some m) (order_is c.self.view_is)
    (slice_get_read members (length members) place m refl within c.index.ensures) in
    stands_by c.args.self.now.order c.args.number place m c.first.result c.in_ok-place.ensures.some.0 there
    c.first.ensures
