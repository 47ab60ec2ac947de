use Rattle.std.proofs.Common.{◌≡◌, ◌+◌, ◌<◌, arith, subst, sym}
use Rattle.run_order.proofs.Happenings.{leads_expired}
use Rattle.run_order.proofs.Reading.{first_fuse_of}
use Rattle.run_order.proofs.Timing.{no_fuse_by_nought, until_not, until_then}
use Rattle.run_order.proofs.Orders.{order_is}
use Rattle.run_order.proofs.replay.Replay.expire.Goals as goal
use Rattle.run_order.specs.Kept.{IsFirstFuseOf, state_with}
use Rattle.run_order.specs.OrderState.{OrderState}
use Rattle.serial_order.specs.Execution.{IsNoFuseBefore}
use Rattle.serial_sweeps.proofs.Moments.{none_before}

pub returns-clause-leads : goal.returns-clause-leads
returns-clause-leads c =
    let i = c.self.inside in
    let g : OrderState =
    state_with i.system.now i.agenda.clock i.begun i.members.items i.roster i.agenda.fuses i.script.now i.end in
    let until : g.until ≡ i.agenda.clock + 1 = until_then i.begun i.agenda.clock c.if-not-self.false in
    let due : c.in-Some.fuse.due < g.until = omega (arith, until, c.in-Some.ensures.fires.1) in
    rw (← c.self.view_is)
    (leads_expired g c.fire-2.new.self.order c.in-Some.fuse c.fire.new.self c.in-Some.ensures.fires.0 due
    c.in_ok-fire.ensures.leads)

pub returns-clause-number : goal.returns-clause-number
returns-clause-number c =
    subst (λ (g : OrderState). IsFirstFuseOf g.fuses c.pid-number.result) (order_is c.self.view_is)
    (first_fuse_of c.self.inside.agenda.fuses c.fire.new.self c.in-Some.fuse c.pid-number.result
    c.in-Some.ensures.fires.0 c.pid-number.ensures)

-- ---- where no fuse is due

pub returns-then-not-self-clause-none : goal.returns-then-not-self-clause-none
returns-then-not-self-clause-none c =
    let i = c.self.inside in
    subst (λ (g : OrderState). IsNoFuseBefore g.until g.fuses) (order_is c.self.view_is)
    (subst (λ time. IsNoFuseBefore time i.agenda.fuses) (sym (until_not i.begun i.agenda.clock c.if-not-self.true))
    (no_fuse_by_nought i.agenda.fuses))

pub returns-in_default-clause-none : goal.returns-in_default-clause-none
returns-in_default-clause-none c =
    let i = c.self.inside in
    subst (λ (g : OrderState). IsNoFuseBefore g.until g.fuses) (order_is c.self.view_is)
    (subst (λ time. IsNoFuseBefore time i.agenda.fuses) (sym (until_then i.begun i.agenda.clock c.if-not-self.false))
    (none_before i.agenda.clock i.agenda.fuses c.in_default.ensures.fires.0))
