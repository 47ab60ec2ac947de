use Rattle.std.proofs.Common.{◌≡◌, Bool, true, subst, sym}
use Rattle.std.specs.Prelude.{◌↔◌}
use Rattle.run_order.proofs.SameValues.{values_same}
use Rattle.run_order.proofs.comparing.are_same.Goals as goal

pub returns : goal.returns
returns c =
    subst (λ (same : Bool). (same ≡ true) ↔ (c.args.values.now ≡ c.args.others.now)) (sym c.eq.ensures)
    (values_same c.args.values.now c.args.others.now)
