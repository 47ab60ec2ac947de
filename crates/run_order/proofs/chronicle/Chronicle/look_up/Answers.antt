use Rattle.std.proofs.Common.{[], ap, refl, subst}
use Rattle.run_order.proofs.Chronicles.{chronicle_if}
use Rattle.run_order.specs.Chronicle.{ChronicleState}
use Rattle.run_order.specs.Interleaving.{Within}
use Rattle.run_order.specs.Kept.{LeadsIf, IsNoLook}
use Rattle.run_order.proofs.chronicle.Chronicle.look_up.Goals as goal

pub invariant_of-self : goal.invariant_of-self
invariant_of-self c =
    let i = c.self.inside in
    let was : ChronicleState = record {
      system = i.system.now;
      lines = i.lines.now;
      now = i.replay.order;
      noted = i.replay.noted;
      tellers = i.tellers.items;
      in_transition = i.in_transition;
      lost = i.lost;
    } in
    chronicle_if c.look_up.result was (record {
      system = i.system.now;
      lines = i.lines.now;
      now = c.look_up.new.self.order;
      noted = c.look_up.new.self.noted;
      tellers = i.tellers.items;
      in_transition = i.in_transition;
      lost = i.lost;
    }) refl refl refl refl refl c.look_up.ensures.fixed c.look_up.ensures.leads
    c.self.invariant

-- ---- what its replay does

pub returns-clause-leads : goal.returns-clause-leads
returns-clause-leads c =
    subst (λ (s : ChronicleState). LeadsIf c.look_up.result s.now [] Within c.look_up.new.self.order) c.self.view_is
    c.look_up.ensures.leads

pub returns-clause-none : goal.returns-clause-none
returns-clause-none c = λ is.
    subst (λ (s : ChronicleState). IsNoLook s.now c.args.number) c.self.view_is
    (c.look_up.ensures.none is)

-- ---- whether it is known

pub returns-clause-known : goal.returns-clause-known
returns-clause-known c = ap (λ (s : ChronicleState). s.lost) c.self.view_is
