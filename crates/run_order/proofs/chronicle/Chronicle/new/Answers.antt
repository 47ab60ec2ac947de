use Rattle.std.proofs.Common.{◌∙◌, ℕ, List, ap, false, subst, sym, true}
use Rattle.run_order.proofs.Chronicles.{chronicle_new}
use Rattle.run_order.proofs.chronicle.Chronicle.new.Goals as goal
use Rattle.run_order.specs.Chronicle.{IsChronicle}
use Rattle.run_order.specs.OrderState.{beginning}

pub invariant_of-result : goal.invariant_of-result
invariant_of-result c =
    subst
    (λ (tellers : List ℕ). IsChronicle (record {
      system = c.args.system.now;
      lines = c.as_slice.result.now;
      now = c.in_ok-new.field-0.order;
      noted = c.in_ok-new.field-0.noted;
      tellers = tellers;
      in_transition = true;
      lost = false;
    })) (sym c.new-2.ensures.items)
    (chronicle_new c.args.system.now c.as_slice.result.now c.in_ok-new.field-0.order c.in_ok-new.field-0.noted
    (c.in_ok-new.ensures ∙ ap (beginning c.args.system.now) (sym c.as_slice.ensures.value)))
