use Rattle.std.proofs.Common.{◌≡◌, [], ap, append-nil, false, refl, subst, sym}
use Rattle.run_order.proofs.Chronicles.{chronicle_more, chronicle_stays}
use Rattle.run_order.specs.Chronicle.{ChronicleState}
use Rattle.run_order.specs.Interleaving.{Around}
use Rattle.run_order.specs.Kept.{Leads}
use Rattle.run_order.specs.Noted.{IsNoTick}
use Rattle.run_order.proofs.chronicle.Chronicle.tick.Goals as goal

pub invariant_of-self : goal.invariant_of-self
invariant_of-self c =
    let i = c.self.inside in
    let was : ChronicleState = record {
      system = i.system.now;
      lines = i.lines.now;
      now = i.replay.order;
      noted = i.replay.noted;
      tellers = i.tellers.items;
      in_transition = i.in_transition;
      lost = i.lost;
    } in
    chronicle_more was (record {
      system = i.system.now;
      lines = i.lines.now;
      now = c.tick.new.self.order;
      noted = c.tick.new.self.noted;
      tellers = i.tellers.items;
      in_transition = false;
      lost = i.lost;
    }) [] Around refl refl refl (sym (append-nil i.tellers.items)) refl
    c.tick.ensures.fixed (rw c.if-tick.true at c.tick.ensures.leads) c.self.invariant

pub invariant_of-self-else-tick : goal.invariant_of-self-else-tick
invariant_of-self-else-tick c =
    let i = c.self.inside in
    let was : ChronicleState = record {
      system = i.system.now;
      lines = i.lines.now;
      now = i.replay.order;
      noted = i.replay.noted;
      tellers = i.tellers.items;
      in_transition = i.in_transition;
      lost = i.lost;
    } in
    chronicle_stays was (record {
      system = i.system.now;
      lines = i.lines.now;
      now = c.tick.new.self.order;
      noted = c.tick.new.self.noted;
      tellers = i.tellers.items;
      in_transition = i.in_transition;
      lost = i.lost;
    }) refl refl refl refl refl c.tick.ensures.fixed
    (λ ps behaviours. rw c.if-tick.false at c.tick.ensures.leads) c.self.invariant

-- ---- what its replay does

pub returns-then-tick-clause-leads : goal.returns-then-tick-clause-leads
returns-then-tick-clause-leads c =
    subst (λ (s : ChronicleState). Leads s.now [] Around c.tick.new.self.order) c.self.view_is
    (rw c.if-tick.true at c.tick.ensures.leads)

pub returns-clause-leads : goal.returns-clause-leads
returns-clause-leads c =
    subst (λ (s : ChronicleState). c.tick.new.self.order ≡ s.now) c.self.view_is
    (rw c.if-tick.false at c.tick.ensures.leads)

pub returns-then-tick-clause-none : goal.returns-then-tick-clause-none
returns-then-tick-clause-none c = λ is.
    let no : ⊥ = cc in
    absurd no

pub returns-clause-none : goal.returns-clause-none
returns-clause-none c = λ is.
    subst (λ (s : ChronicleState). IsNoTick s.now s.noted) c.self.view_is (c.tick.ensures.none c.if-tick.false)

-- ---- whether it is known

pub returns-then-tick-clause-known : goal.returns-then-tick-clause-known
returns-then-tick-clause-known c = ap (λ (s : ChronicleState). s.lost) c.self.view_is

pub returns-clause-known : goal.returns-clause-known
returns-clause-known c = ap (λ (s : ChronicleState). s.lost) c.self.view_is
