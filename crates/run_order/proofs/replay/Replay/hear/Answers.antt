use Rattle.std.proofs.Common.{◌≡◌, ◌∙◌, ◌+◌, ◌<◌, ◌≤◌, ◌∷◌, List, [], ap, arith, inl, inr, rules, subst, sym}
use Rattle.run_order.proofs.Happenings.{heard_signal, item_is, leads_heard}
use Rattle.run_order.proofs.Reading.{none_of, says_signal, says_time}
use Rattle.run_order.proofs.Timing.{no_line_by_nought, not_so, until_not, until_then}
use Rattle.run_order.proofs.Orders.{order_is}
use Rattle.run_order.proofs.replay.Replay.hear.Goals as goal
use Rattle.run_order.specs.Kept.{SaysHeard, state_with}
use Rattle.run_order.specs.OrderState.{OrderState, heard, living_of}
use Rattle.run_order.specs.declared.hearing.Heard.TheVariants.{Signal, Time}
use Rattle.sdl_script.specs.declared.script.ScriptLine.{ScriptLine}
use Rattle.sdl_system.specs.Route.{target_in}
use Rattle.sdl_system.specs.declared.route.Source.TheVariants as source
use Rattle.serial_order.specs.Execution.{IsNoFuseBefore, IsNoLineBefore}
use Rattle.serial_sweeps.specs.Sweeps.{until_of}

pub returns-in_default-signal-clause-leads : goal.returns-in_default-signal-clause-leads
returns-in_default-signal-clause-leads c =
    let i = c.self.inside in
    let g : OrderState =
    state_with i.system.now i.agenda.clock i.begun i.members.items i.roster i.agenda.fuses i.script.now i.end in
    let line = c.in-Some.line.now in
    let later = c.in-Some.later.now in
    let next : i.script.now ≡ line ∷ later = c.in-Some.ensures.cases.0 in
    let until : g.until ≡ i.agenda.clock + 1 = until_then i.begun i.agenda.clock c.if-not-self.false in
    let come : line.at ≤ i.agenda.clock = search rules in
    let due : line.at < g.until = omega (arith, until, come) in
    let no_fuse : IsNoFuseBefore g.until g.fuses =
    subst (λ time. IsNoFuseBefore time g.fuses) (sym until)
    (subst (λ (s : OrderState). IsNoFuseBefore (i.agenda.clock + 1) s.fuses) (sym (order_is c.self.view_is))
    (c.is_no_fuse_by.ensures.0 c.if-not-is_no_fuse_by.false)) in
    rw (← c.self.view_is)
    (leads_heard g (record g { script = later }) line later next due no_fuse
    (ap (heard (record g { script = later })) (sym c.in_default-signal.is)))

pub returns-clause-leads : goal.returns-clause-leads
returns-clause-leads c =
    let i = c.self.inside in
    let g : OrderState =
    state_with i.system.now i.agenda.clock i.begun i.members.items i.roster i.agenda.fuses i.script.now i.end in
    let line = c.in-Some.line.now in
    let later = c.in-Some.later.now in
    let signal = c.in-Some-signal.signal in
    let next : i.script.now ≡ line ∷ later = c.in-Some.ensures.cases.0 in
    let until : g.until ≡ i.agenda.clock + 1 = until_then i.begun i.agenda.clock c.if-not-self.false in
    let come : line.at ≤ i.agenda.clock = search rules in
    let due : line.at < g.until = omega (arith, until, come) in
    let no_fuse : IsNoFuseBefore g.until g.fuses =
    subst (λ time. IsNoFuseBefore time g.fuses) (sym until)
    (subst (λ (s : OrderState). IsNoFuseBefore (i.agenda.clock + 1) s.fuses) (sym (order_is c.self.view_is))
    (c.is_no_fuse_by.ensures.0 c.if-not-is_no_fuse_by.false)) in
    let after : OrderState = record g { script = later } in
    let goes : c.route-target.result
    ≡ target_in g.system.routes signal.item.name source.Env signal.to (living_of after).least =
    c.route-target.ensures
    ∙ ap (target_in i.system.now.routes signal.item.name source.Env signal.to) c.least-living.ensures in
    let now : c.send.new.self.order ≡ heard after line.signal =
    c.in_ok-send.ensures.leads
    ∙ heard_signal after line.signal signal c.route-target.result _ c.in-Some-signal.is goes
    (item_is signal.item c.in_ok-copied.field-0 c.in_ok-copied.ensures.ok) in
    rw (← c.self.view_is) (leads_heard g c.send.new.self.order line later next due no_fuse now)

-- ---- what was heard

pub returns-in_default-signal-clause-heard : goal.returns-in_default-signal-clause-heard
returns-in_default-signal-clause-heard c =
    let i = c.self.inside in
    let g : OrderState =
    state_with i.system.now i.agenda.clock i.begun i.members.items i.roster i.agenda.fuses i.script.now i.end in
    let next : i.script.now ≡ c.in-Some.line.now ∷ c.in-Some.later.now = c.in-Some.ensures.cases.0 in
    subst (λ (g : OrderState). SaysHeard g g.script Time) (order_is c.self.view_is)
    (says_time g i.script.now c.in-Some.later.now c.in-Some.line.now next c.in_default-signal.is)

pub returns-clause-heard : goal.returns-clause-heard
returns-clause-heard c =
    let i = c.self.inside in
    let g : OrderState =
    state_with i.system.now i.agenda.clock i.begun i.members.items i.roster i.agenda.fuses i.script.now i.end in
    let signal = c.in-Some-signal.signal in
    let next : i.script.now ≡ c.in-Some.line.now ∷ c.in-Some.later.now = c.in-Some.ensures.cases.0 in
    let goes : c.route-target.result
    ≡ target_in g.system.routes signal.item.name source.Env signal.to (living_of g).least =
    c.route-target.ensures
    ∙ ap (target_in i.system.now.routes signal.item.name source.Env signal.to) c.least-living.ensures in
    subst (λ (g : OrderState). SaysHeard g g.script (Signal c.route-target.result)) (order_is c.self.view_is)
    (says_signal g i.script.now c.in-Some.later.now c.in-Some.line.now signal c.route-target.result next
    c.in-Some-signal.is goes)

-- ---- where no line is heard

pub returns-then-not-self-clause-none : goal.returns-then-not-self-clause-none
returns-then-not-self-clause-none c = λ is.
    let i = c.self.inside in
    inl (subst (λ (g : OrderState). IsNoLineBefore g.until g.script) (order_is c.self.view_is)
    (subst (λ time. IsNoLineBefore time i.script.now) (sym (until_not i.begun i.agenda.clock c.if-not-self.true))
    (no_line_by_nought i.script.now)))

pub returns-then-not-is_no_fuse_by-clause-none : goal.returns-then-not-is_no_fuse_by-clause-none
returns-then-not-is_no_fuse_by-clause-none c = λ is.
    let i = c.self.inside in
    let until : c.args.self.now.order.until ≡ i.agenda.clock + 1 =
    sym (ap (λ (g : OrderState). g.until) (order_is c.self.view_is))
    ∙ until_then i.begun i.agenda.clock c.if-not-self.false in
    inr (λ all. not_so c.is_no_fuse_by.result c.if-not-is_no_fuse_by.true c.is_no_fuse_by.ensures.1
    (subst (λ time. IsNoFuseBefore time c.args.self.now.order.fuses) until all))

pub returns-in_default-clause-none : goal.returns-in_default-clause-none
returns-in_default-clause-none c = λ is.
    let i = c.self.inside in
    let none : i.script.now ≡ [] = none_of i.script.now c.in_default.ensures.cases in
    inl (subst (λ (g : OrderState). IsNoLineBefore g.until g.script) (order_is c.self.view_is)
    (subst (λ (lines : List ScriptLine). IsNoLineBefore (until_of i.begun i.agenda.clock) lines) (sym none) tt))

pub returns-then-lt-clause-none : goal.returns-then-lt-clause-none
returns-then-lt-clause-none c = λ is.
    let i = c.self.inside in
    let line = c.in-Some.line.now in
    let later = c.in-Some.later.now in
    let next : i.script.now ≡ line ∷ later = c.in-Some.ensures.cases.0 in
    let until : until_of i.begun i.agenda.clock ≡ i.agenda.clock + 1 =
    until_then i.begun i.agenda.clock c.if-not-self.false in
    let late : i.agenda.clock < line.at = search rules in
    inl (subst (λ (g : OrderState). IsNoLineBefore g.until g.script) (order_is c.self.view_is)
    (subst (λ (lines : List ScriptLine). IsNoLineBefore (until_of i.begun i.agenda.clock) lines) (sym next)
    (omega (arith, until, late))))
