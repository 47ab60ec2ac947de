use Rattle.std.proofs.Common.{◌≡◌, ◌++◌, ◌∷◌, [], ap, refl, rules, subst, true}
use Rattle.run_order.proofs.Chronicles.{chronicle_lost, chronicle_more, chronicle_stays}
use Rattle.run_order.specs.Chronicle.{ChronicleState}
use Rattle.run_order.specs.Interleaving.{Within}
use Rattle.run_order.specs.Kept.{Leads, IsNoTell}
use Rattle.run_order.proofs.chronicle.Chronicle.tell.Goals as goal

-- for lack of memory before it
pub invariant_of-self : goal.invariant_of-self
invariant_of-self c =
    let same : c.reserve.new.self.items ≡ c.self.inside.tellers.items = search rules in
    rw same c.self.invariant

pub invariant_of-self-in_err-told : goal.invariant_of-self-in_err-told
invariant_of-self-in_err-told c =
    let i = c.self.inside in
    let was : ChronicleState = record {
      system = i.system.now;
      lines = i.lines.now;
      now = i.replay.order;
      noted = i.replay.noted;
      tellers = i.tellers.items;
      in_transition = i.in_transition;
      lost = i.lost;
    } in
    chronicle_lost was (record {
      system = i.system.now;
      lines = i.lines.now;
      now = c.tell.new.self.order;
      noted = c.tell.new.self.noted;
      tellers = c.reserve.new.self.items;
      in_transition = i.in_transition;
      lost = true;
    }) refl refl refl c.tell.ensures.fixed
    c.self.invariant

pub invariant_of-self-then-told : goal.invariant_of-self-then-told
invariant_of-self-then-told c =
    let i = c.self.inside in
    let was : ChronicleState = record {
      system = i.system.now;
      lines = i.lines.now;
      now = i.replay.order;
      noted = i.replay.noted;
      tellers = i.tellers.items;
      in_transition = i.in_transition;
      lost = i.lost;
    } in
    let pushed : c.push_reserved.new.self.items ≡ i.tellers.items ++ c.args.number ∷ [] = search rules in
    chronicle_more was (record {
      system = i.system.now;
      lines = i.lines.now;
      now = c.tell.new.self.order;
      noted = c.tell.new.self.noted;
      tellers = c.push_reserved.new.self.items;
      in_transition = i.in_transition;
      lost = i.lost;
    }) (c.args.number ∷ []) Within refl refl refl pushed refl
    c.tell.ensures.fixed (rw c.if-told.true at c.in_ok-told.ensures.leads) c.self.invariant

pub invariant_of-self-else-told : goal.invariant_of-self-else-told
invariant_of-self-else-told c =
    let i = c.self.inside in
    let was : ChronicleState = record {
      system = i.system.now;
      lines = i.lines.now;
      now = i.replay.order;
      noted = i.replay.noted;
      tellers = i.tellers.items;
      in_transition = i.in_transition;
      lost = i.lost;
    } in
    let same : c.reserve.new.self.items ≡ i.tellers.items = search rules in
    chronicle_stays was (record {
      system = i.system.now;
      lines = i.lines.now;
      now = c.tell.new.self.order;
      noted = c.tell.new.self.noted;
      tellers = c.reserve.new.self.items;
      in_transition = i.in_transition;
      lost = i.lost;
    }) refl refl refl same refl c.tell.ensures.fixed
    (λ ps behaviours. rw c.if-told.false at c.in_ok-told.ensures.leads) c.self.invariant

-- ---- what its replay does

pub returns-then-told-clause-leads : goal.returns-then-told-clause-leads
returns-then-told-clause-leads c =
    subst (λ (s : ChronicleState). Leads s.now (c.args.number ∷ []) Within c.tell.new.self.order) c.self.view_is
    (rw c.if-told.true at c.in_ok-told.ensures.leads)

pub returns-then-told-clause-none : goal.returns-then-told-clause-none
returns-then-told-clause-none c = λ is.
    let no : ⊥ = cc in
    absurd no

pub returns-clause-leads : goal.returns-clause-leads
returns-clause-leads c =
    subst (λ (s : ChronicleState). c.tell.new.self.order ≡ s.now) c.self.view_is
    (rw c.if-told.false at c.in_ok-told.ensures.leads)

pub returns-clause-none : goal.returns-clause-none
returns-clause-none c = λ is.
    subst (λ (s : ChronicleState). IsNoTell s.now c.args.number) c.self.view_is
    (c.in_ok-told.ensures.none c.if-told.false)

-- ---- whether it is known

pub returns-then-told-clause-known : goal.returns-then-told-clause-known
returns-then-told-clause-known c = ap (λ (s : ChronicleState). s.lost) c.self.view_is

pub returns-clause-known : goal.returns-clause-known
returns-clause-known c = ap (λ (s : ChronicleState). s.lost) c.self.view_is
