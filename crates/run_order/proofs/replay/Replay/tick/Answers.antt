use Rattle.std.proofs.Common.{◌+◌, [], inl, inr, refl, subst, sym}
use Rattle.run_order.proofs.Happenings.{leads_ticked}
use Rattle.run_order.proofs.Orders.{order_is, noted_is}
use Rattle.run_order.proofs.replay.Replay.tick.Goals as goal
use Rattle.run_order.specs.Interleaving.{Around}
use Rattle.run_order.specs.Kept.{Leads, state_with}
use Rattle.run_order.specs.OrderState.{OrderState}
use Rattle.run_order.proofs.Timing.{not_so}

pub returns-clause-leads : goal.returns-clause-leads
returns-clause-leads c =
    let i = c.self.inside in
    let time = c.in-Some.time in
    let g : OrderState =
    state_with i.system.now i.agenda.clock i.begun i.members.items i.roster i.agenda.fuses i.script.now i.end in
    let h : OrderState = record g { clock = time; until = time + 1 } in
    let leads : Leads c.args.self.now.order [] Around (record c.args.self.now.order {
      clock = time;
      until = time + 1;
    }) =
    leads_ticked c.args.self.now.order (record c.args.self.now.order { clock = time; until = time + 1 }) time
    (c.is_still.ensures.done c.if-not-is_still.false) (c.is_nothing_due.ensures.0 c.if-not-is_nothing_due.false)
    c.in-Some.ensures refl in
    rw (← c.self.view_is)
    (subst (λ (g : OrderState). Leads g [] Around (record g { clock = time; until = time + 1 }))
    (sym (order_is c.self.view_is))
    leads)

pub returns-clause-noted : goal.returns-clause-noted
returns-clause-noted c = noted_is c.self.view_is

-- ---- where it doesn't move

pub returns-then-not-is_nothing_due-clause-none : goal.returns-then-not-is_nothing_due-clause-none
returns-then-not-is_nothing_due-clause-none c = λ is.
    inr (inl (not_so c.is_nothing_due.result c.if-not-is_nothing_due.true c.is_nothing_due.ensures.1))

pub returns-then-not-is_still-clause-none : goal.returns-then-not-is_still-clause-none
returns-then-not-is_still-clause-none c = λ is.
    inl (not_so c.is_still.result c.if-not-is_still.true c.is_still.ensures.noted.1)

pub returns-in_default-clause-none : goal.returns-in_default-clause-none
returns-in_default-clause-none c = λ is. inr (inr c.in_default.ensures)

pub returns-clause-none : goal.returns-clause-none
returns-clause-none c = λ is.
    let no : ⊥ = cc in
    absurd no
