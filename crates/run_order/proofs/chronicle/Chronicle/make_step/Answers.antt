use Rattle.std.proofs.Common.{◌≡◌, ◌++◌, ◌∷◌, [], ap, refl, rules, subst, true}
use Rattle.run_order.proofs.Chronicles.{chronicle_lost, chronicle_more, chronicle_other}
use Rattle.run_order.specs.Chronicle.{ChronicleState, replay_of}
use Rattle.run_order.specs.Interleaving.{Transition}
use Rattle.run_order.proofs.chronicle.Chronicle.make_step.Goals as goal
use Rattle.run_order.specs.Kept.{IsNoStep, LeadsBy}
use Rattle.run_order.specs.Noted.{IsNotedNoMore}

-- for lack of memory before it
pub invariant_of-self : goal.invariant_of-self
invariant_of-self c =
    let same : c.reserve.new.self.items ≡ c.self.inside.tellers.items = search rules in
    rw same c.self.invariant

-- for lack of memory
pub invariant_of-self-in_err-made : goal.invariant_of-self-in_err-made
invariant_of-self-in_err-made c =
    let i = c.self.inside in
    let was : ChronicleState = record {
      system = i.system.now;
      lines = i.lines.now;
      now = i.replay.order;
      noted = i.replay.noted;
      tellers = i.tellers.items;
      in_transition = i.in_transition;
      lost = i.lost;
    } in
    chronicle_lost was (record {
      system = i.system.now;
      lines = i.lines.now;
      now = c.make_step.new.self.order;
      noted = c.make_step.new.self.noted;
      tellers = c.reserve.new.self.items;
      in_transition = i.in_transition;
      lost = true;
    }) refl refl refl c.make_step.ensures.fixed
    c.self.invariant

pub invariant_of-self-in-Began : goal.invariant_of-self-in-Began
invariant_of-self-in-Began c =
    let i = c.self.inside in
    let was : ChronicleState = record {
      system = i.system.now;
      lines = i.lines.now;
      now = i.replay.order;
      noted = i.replay.noted;
      tellers = i.tellers.items;
      in_transition = i.in_transition;
      lost = i.lost;
    } in
    let pushed : c.push_reserved.new.self.items ≡ i.tellers.items ++ c.args.number ∷ [] = search rules in
    chronicle_more was (record {
      system = i.system.now;
      lines = i.lines.now;
      now = c.make_step.new.self.order;
      noted = c.make_step.new.self.noted;
      tellers = c.push_reserved.new.self.items;
      in_transition = true;
      lost = i.lost;
    }) (c.args.number ∷ []) Transition refl refl refl pushed refl
    c.make_step.ensures.fixed (rw c.in-Began.is at c.in_ok-made.ensures.leads) c.self.invariant

pub invariant_of-self-in_default : goal.invariant_of-self-in_default
invariant_of-self-in_default c =
    let i = c.self.inside in
    let was : ChronicleState = record {
      system = i.system.now;
      lines = i.lines.now;
      now = i.replay.order;
      noted = i.replay.noted;
      tellers = i.tellers.items;
      in_transition = i.in_transition;
      lost = i.lost;
    } in
    let same : c.reserve.new.self.items ≡ i.tellers.items = search rules in
    chronicle_other c.in_ok-made.made c.args.number was (record {
      system = i.system.now;
      lines = i.lines.now;
      now = c.make_step.new.self.order;
      noted = c.make_step.new.self.noted;
      tellers = c.reserve.new.self.items;
      in_transition = i.in_transition;
      lost = i.lost;
    }) refl refl refl same refl c.make_step.ensures.fixed c.in_default.not-Began c.in_ok-made.ensures.leads
    c.self.invariant

-- ---- what its replay does

pub returns-in-Began-clause-leads : goal.returns-in-Began-clause-leads
returns-in-Began-clause-leads c =
    subst (λ (s : ChronicleState). LeadsBy c.in_ok-made.made s.now c.args.number c.make_step.new.self.order)
    c.self.view_is
    c.in_ok-made.ensures.leads

pub returns-in-Began-clause-none : goal.returns-in-Began-clause-none
returns-in-Began-clause-none c = λ is.
    subst (λ (s : ChronicleState). IsNoStep s.now c.args.number) c.self.view_is
    (c.in_ok-made.ensures.none is)

pub returns-in-Began-clause-noted : goal.returns-in-Began-clause-noted
returns-in-Began-clause-noted c = λ is.
    subst (λ (s : ChronicleState). IsNotedNoMore (replay_of s) c.args.number c.make_step.new.self) c.self.view_is
    (c.in_ok-made.ensures.noted is)

pub returns-clause-noted : goal.returns-clause-noted
returns-clause-noted c = λ is.
    subst (λ (s : ChronicleState). IsNotedNoMore (replay_of s) c.args.number c.make_step.new.self) c.self.view_is
    (c.in_ok-made.ensures.noted is)

pub returns-clause-leads : goal.returns-clause-leads
returns-clause-leads c =
    subst (λ (s : ChronicleState). LeadsBy c.in_ok-made.made s.now c.args.number c.make_step.new.self.order)
    c.self.view_is
    c.in_ok-made.ensures.leads

pub returns-clause-none : goal.returns-clause-none
returns-clause-none c = λ is.
    subst (λ (s : ChronicleState). IsNoStep s.now c.args.number) c.self.view_is
    (c.in_ok-made.ensures.none is)

-- ---- whether it is known

pub returns-in-Began-clause-known : goal.returns-in-Began-clause-known
returns-in-Began-clause-known c = ap (λ (s : ChronicleState). s.lost) c.self.view_is

pub returns-clause-known : goal.returns-clause-known
returns-clause-known c = ap (λ (s : ChronicleState). s.lost) c.self.view_is
