use Rattle.std.proofs.Common.{◌≡◌, [], ap, append-nil, false, refl, subst, sym, true}
use Rattle.run_order.proofs.Chronicles.{chronicle_lost, chronicle_more, chronicle_stays}
use Rattle.run_order.specs.Chronicle.{ChronicleState}
use Rattle.run_order.specs.Interleaving.{Around}
use Rattle.run_order.specs.Kept.{Leads, IsFirstFuseOf}
use Rattle.run_order.proofs.chronicle.Chronicle.expire.Goals as goal
use Rattle.serial_order.specs.Execution.{IsNoFuseBefore}

pub invariant_of-self : goal.invariant_of-self
invariant_of-self c =
    let i = c.self.inside in
    let was : ChronicleState = record {
      system = i.system.now;
      lines = i.lines.now;
      now = i.replay.order;
      noted = i.replay.noted;
      tellers = i.tellers.items;
      in_transition = i.in_transition;
      lost = i.lost;
    } in
    chronicle_lost was (record {
      system = i.system.now;
      lines = i.lines.now;
      now = c.expire.new.self.order;
      noted = c.expire.new.self.noted;
      tellers = i.tellers.items;
      in_transition = i.in_transition;
      lost = true;
    }) refl refl refl c.expire.ensures.fixed
    c.self.invariant

pub invariant_of-self-in-Some : goal.invariant_of-self-in-Some
invariant_of-self-in-Some c =
    let i = c.self.inside in
    let was : ChronicleState = record {
      system = i.system.now;
      lines = i.lines.now;
      now = i.replay.order;
      noted = i.replay.noted;
      tellers = i.tellers.items;
      in_transition = i.in_transition;
      lost = i.lost;
    } in
    chronicle_more was (record {
      system = i.system.now;
      lines = i.lines.now;
      now = c.expire.new.self.order;
      noted = c.expire.new.self.noted;
      tellers = i.tellers.items;
      in_transition = false;
      lost = i.lost;
    }) [] Around refl refl refl (sym (append-nil i.tellers.items)) refl
    c.expire.ensures.fixed (rw c.in-Some.is at c.in_ok-expired.ensures.leads) c.self.invariant

pub invariant_of-self-in-None : goal.invariant_of-self-in-None
invariant_of-self-in-None c =
    let i = c.self.inside in
    let was : ChronicleState = record {
      system = i.system.now;
      lines = i.lines.now;
      now = i.replay.order;
      noted = i.replay.noted;
      tellers = i.tellers.items;
      in_transition = i.in_transition;
      lost = i.lost;
    } in
    chronicle_stays was (record {
      system = i.system.now;
      lines = i.lines.now;
      now = c.expire.new.self.order;
      noted = c.expire.new.self.noted;
      tellers = i.tellers.items;
      in_transition = i.in_transition;
      lost = i.lost;
    }) refl refl refl refl refl c.expire.ensures.fixed
    (λ ps behaviours. rw c.in-None.is at c.in_ok-expired.ensures.leads) c.self.invariant

-- ---- what its replay does

pub returns-in-Some-clause-leads : goal.returns-in-Some-clause-leads
returns-in-Some-clause-leads c =
    subst (λ (s : ChronicleState). Leads s.now [] Around c.expire.new.self.order) c.self.view_is
    (rw c.in-Some.is at c.in_ok-expired.ensures.leads)

pub returns-in-Some-clause-number : goal.returns-in-Some-clause-number
returns-in-Some-clause-number c =
    subst (λ (s : ChronicleState). IsFirstFuseOf s.now.fuses c.in-Some.number) c.self.view_is
    (rw c.in-Some.is at c.in_ok-expired.ensures.number)

pub returns-in-None-clause-leads : goal.returns-in-None-clause-leads
returns-in-None-clause-leads c =
    subst (λ (s : ChronicleState). c.expire.new.self.order ≡ s.now) c.self.view_is
    (rw c.in-None.is at c.in_ok-expired.ensures.leads)

pub returns-in-None-clause-none : goal.returns-in-None-clause-none
returns-in-None-clause-none c =
    subst (λ (s : ChronicleState). IsNoFuseBefore s.now.until s.now.fuses) c.self.view_is
    (rw c.in-None.is at c.in_ok-expired.ensures.none)

-- ---- whether it is known

pub returns-in-Some-clause-known : goal.returns-in-Some-clause-known
returns-in-Some-clause-known c = ap (λ (s : ChronicleState). s.lost) c.self.view_is

pub returns-in-None-clause-known : goal.returns-in-None-clause-known
returns-in-None-clause-known c = ap (λ (s : ChronicleState). s.lost) c.self.view_is
