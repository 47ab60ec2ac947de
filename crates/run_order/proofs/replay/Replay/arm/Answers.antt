use Rattle.std.proofs.Common.{◌≡◌, ◌∙◌, ◌<◌, ◌≤◌, Result, Ok, Err, false, is_err, rules, subst, sym}
use Rattle.std.specs.Prelude.{OnOk}
use Rattle.run_order.proofs.Happenings.{armed_later, armed_now}
use Rattle.run_order.proofs.Orders.{order_is}
use Rattle.run_order.proofs.replay.Replay.arm.Goals as goal
use Rattle.run_order.specs.Kept.{state_with}
use Rattle.run_order.specs.OrderState.{OrderState}
use Rattle.sdl_timers.specs.DueOrder.{with_fuse}

-- its time has come

pub returns-then-le-clause-leads : goal.returns-then-le-clause-leads
returns-then-le-clause-leads c =
    let come : c.args.fuse.due ≤ c.self.inside.agenda.clock = search rules in
    let now : c.args.fuse.due ≤ c.args.self.now.order.clock =
    subst (λ (g : OrderState). c.args.fuse.due ≤ g.clock) (order_is c.self.view_is) come in
    subst (λ (g : OrderState). OnOk c.fire.result (c.fire.new.self.order ≡ g))
    (armed_now c.args.self.now.order c.args.fuse now)
    c.fire.ensures.leads

-- it waits

not_refused : {A E : Type 0} (r : Result A E) (P : Type 0) → is_err r ≡ false → OnOk r P → P
not_refused (Ok a) P taken ok = ok
not_refused (Err e) P taken ok = let no : ⊥ = cc in absurd no

pub returns-clause-leads : goal.returns-clause-leads
returns-clause-leads c =
    let i = c.self.inside in
    let g : OrderState =
    state_with i.system.now i.agenda.clock i.begun i.members.items i.roster i.agenda.fuses i.script.now i.end in
    let late : i.agenda.clock < c.args.fuse.due = search rules in
    let more : c.arm.new.self ≡ with_fuse c.args.fuse i.agenda.fuses =
    not_refused c.arm.result (c.arm.new.self ≡ with_fuse c.args.fuse i.agenda.fuses)
    (sym c.is_err.ensures.value ∙ c.if-is_err.false) c.arm.ensures.ok in
    rw (← c.self.view_is) (armed_later g c.args.fuse c.arm.new.self late more)
