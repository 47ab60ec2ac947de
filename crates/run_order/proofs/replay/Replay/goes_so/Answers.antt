use Rattle.std.proofs.Common.{◌≡◌, ◌∙◌, ap, subst}
use Rattle.run_order.proofs.Happenings.{look_other, look_so}
use Rattle.run_order.proofs.Orders.{order_is}
use Rattle.run_order.proofs.replay.Replay.goes_so.Goals as goal
use Rattle.run_order.specs.OrderState.{OrderState, living_of}
use Rattle.sdl_system.specs.Route.{target_in}
use Rattle.sdl_system.specs.declared.route.Source.TheVariants as source

pub returns-in-Send : goal.returns-in-Send
returns-in-Send c =
    let i = c.self.inside in
    let name = c.in-Send.item.name in
    let routed : c.route-goes.result
    ≡ target_in c.args.self.now.order.system.routes name (source.Process c.args.process) c.in-Send.to
    (living_of c.args.self.now.order).least =
    subst
    (λ (g : OrderState). c.route-goes.result
    ≡ target_in g.system.routes name (source.Process c.args.process) c.in-Send.to (living_of g).least)
    (order_is c.self.view_is)
    (c.route-goes.ensures
    ∙ ap (target_in i.system.now.routes name (source.Process c.args.process) c.in-Send.to)
    c.least-living.ensures) in
    look_so c.args.self.now.order c.args.process c.args.what.now c.in-Send.to c.in-Send.target c.in-Send.item
    c.route-goes.result c.is_same.result c.in-Send.is routed c.is_same.ensures

pub returns-in_default : goal.returns-in_default
returns-in_default c = look_other c.args.self.now.order c.args.process c.args.what.now c.in_default.not-Send
