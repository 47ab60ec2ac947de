use Rattle.std.proofs.Common.{◌≡◌, ◌++◌, ◌∷◌, [], ap, false, refl, rules, subst, true}
use Rattle.run_order.proofs.Chronicles.{chronicle_lost, chronicle_more, chronicle_stays, heard_is}
use Rattle.run_order.specs.Chronicle.{ChronicleState}
use Rattle.run_order.specs.Interleaving.{Around}
use Rattle.run_order.specs.Kept.{Leads, LeadsIf, IsNoLineNow, SaysHeard, is_heard}
use Rattle.run_order.proofs.chronicle.Chronicle.hear.Goals as goal

-- for lack of memory before it
pub invariant_of-self : goal.invariant_of-self
invariant_of-self c =
    let same : c.reserve.new.self.items ≡ c.self.inside.tellers.items = search rules in
    rw same c.self.invariant

pub invariant_of-self-in_err-heard : goal.invariant_of-self-in_err-heard
invariant_of-self-in_err-heard c =
    let i = c.self.inside in
    let was : ChronicleState = record {
      system = i.system.now;
      lines = i.lines.now;
      now = i.replay.order;
      noted = i.replay.noted;
      tellers = i.tellers.items;
      in_transition = i.in_transition;
      lost = i.lost;
    } in
    chronicle_lost was (record {
      system = i.system.now;
      lines = i.lines.now;
      now = c.hear.new.self.order;
      noted = c.hear.new.self.noted;
      tellers = c.reserve.new.self.items;
      in_transition = i.in_transition;
      lost = true;
    }) refl refl refl c.hear.ensures.fixed
    c.self.invariant

pub invariant_of-self-in-Nothing : goal.invariant_of-self-in-Nothing
invariant_of-self-in-Nothing c =
    let i = c.self.inside in
    let was : ChronicleState = record {
      system = i.system.now;
      lines = i.lines.now;
      now = i.replay.order;
      noted = i.replay.noted;
      tellers = i.tellers.items;
      in_transition = i.in_transition;
      lost = i.lost;
    } in
    let same : c.reserve.new.self.items ≡ i.tellers.items = search rules in
    chronicle_stays was (record {
      system = i.system.now;
      lines = i.lines.now;
      now = c.hear.new.self.order;
      noted = c.hear.new.self.noted;
      tellers = c.reserve.new.self.items;
      in_transition = i.in_transition;
      lost = i.lost;
    }) refl refl refl same refl c.hear.ensures.fixed
    (λ ps behaviours. rw c.in-Nothing.is at c.in_ok-heard.ensures.leads) c.self.invariant

pub invariant_of-self-2 : goal.invariant_of-self-2
invariant_of-self-2 c =
    let i = c.self.inside in
    let was : ChronicleState = record {
      system = i.system.now;
      lines = i.lines.now;
      now = i.replay.order;
      noted = i.replay.noted;
      tellers = i.tellers.items;
      in_transition = i.in_transition;
      lost = i.lost;
    } in
    let pushed : c.push_reserved.new.self.items ≡ i.tellers.items ++ 0 ∷ [] = search rules in
    let leads : Leads i.replay.order (0 ∷ []) Around c.hear.new.self.order =
    subst (λ b. LeadsIf b i.replay.order (0 ∷ []) Around c.hear.new.self.order)
    (heard_is c.in_ok-heard.heard c.in_default.not-Nothing) c.in_ok-heard.ensures.leads in
    chronicle_more was (record {
      system = i.system.now;
      lines = i.lines.now;
      now = c.hear.new.self.order;
      noted = c.hear.new.self.noted;
      tellers = c.push_reserved.new.self.items;
      in_transition = false;
      lost = i.lost;
    }) (0 ∷ []) Around refl refl refl pushed refl
    c.hear.ensures.fixed leads c.self.invariant

-- ---- what its replay does

pub returns-in-Nothing-clause-leads : goal.returns-in-Nothing-clause-leads
returns-in-Nothing-clause-leads c =
    subst (λ (s : ChronicleState). LeadsIf (is_heard c.in_ok-heard.heard) s.now (0 ∷ []) Around c.hear.new.self.order)
    c.self.view_is
    c.in_ok-heard.ensures.leads

pub returns-in-Nothing-clause-none : goal.returns-in-Nothing-clause-none
returns-in-Nothing-clause-none c = λ is.
    subst (λ (s : ChronicleState). IsNoLineNow s.now) c.self.view_is
    (c.in_ok-heard.ensures.none is)

pub returns-in-Nothing-clause-heard : goal.returns-in-Nothing-clause-heard
returns-in-Nothing-clause-heard c =
    subst (λ (s : ChronicleState). SaysHeard s.now s.now.script c.in_ok-heard.heard) c.self.view_is
    c.in_ok-heard.ensures.heard

pub returns-clause-leads : goal.returns-clause-leads
returns-clause-leads c =
    subst (λ (s : ChronicleState). LeadsIf (is_heard c.in_ok-heard.heard) s.now (0 ∷ []) Around c.hear.new.self.order)
    c.self.view_is
    c.in_ok-heard.ensures.leads

pub returns-clause-none : goal.returns-clause-none
returns-clause-none c = λ is.
    subst (λ (s : ChronicleState). IsNoLineNow s.now) c.self.view_is
    (c.in_ok-heard.ensures.none is)

pub returns-clause-heard : goal.returns-clause-heard
returns-clause-heard c =
    subst (λ (s : ChronicleState). SaysHeard s.now s.now.script c.in_ok-heard.heard) c.self.view_is
    c.in_ok-heard.ensures.heard

-- ---- whether it is known

pub returns-in-Nothing-clause-known : goal.returns-in-Nothing-clause-known
returns-in-Nothing-clause-known c = ap (λ (s : ChronicleState). s.lost) c.self.view_is

pub returns-clause-known : goal.returns-clause-known
returns-clause-known c = ap (λ (s : ChronicleState). s.lost) c.self.view_is
