use Rattle.std.proofs.Common.{◌≡◌, slice_get, subst, sym, true}
use Rattle.std.specs.Option.{option_map_or}
use Rattle.run_order.proofs.Happenings.{full_none, full_some}
use Rattle.run_order.proofs.Orders.{order_is}
use Rattle.run_order.proofs.replay.Replay.is_full.Goals as goal
use Rattle.run_order.specs.Kept.{state_with}
use Rattle.run_order.specs.OrderState.{OrderState, living_of}
use Rattle.run_semantics.specs.World.{count_in, is_reached}
use Rattle.sdl_system.specs.declared.process.Process.{Process}

pub returns-in_default : goal.returns-in_default
returns-in_default c =
    let i = c.self.inside in
    let g : OrderState =
    state_with i.system.now i.agenda.clock i.begun i.members.items i.roster i.agenda.fuses i.script.now i.end in
    subst (λ (g : OrderState). true
    ≡ option_map_or (λ (p : Process). is_reached p.maximum (count_in (living_of g) c.args.process))
    (slice_get g.system.processes c.args.process.0) true) (order_is c.self.view_is)
    (full_none g c.args.process (sym c.in_default.ensures))

pub returns : goal.returns
returns c =
    let i = c.self.inside in
    let g : OrderState =
    state_with i.system.now i.agenda.clock i.begun i.members.items i.roster i.agenda.fuses i.script.now i.end in
    subst (λ (g : OrderState). c.is_reached.result
    ≡ option_map_or (λ (p : Process). is_reached p.maximum (count_in (living_of g) c.args.process))
    (slice_get g.system.processes c.args.process.0) true) (order_is c.self.view_is)
    (full_some g c.args.process c.in-Some.definition.now c.count.result c.is_reached.result (sym c.in-Some.ensures)
    c.count.ensures c.is_reached.ensures)
