-- The values that stand at the place of the number are the same.
use Rattle.std.proofs.Common.{◌∙◌, arith, get_or, refl, subst, sym}
use Rattle.port_model.specs.Same.{same_values}
use Rattle.settle_run.proofs.GiftLemmas.{begins_so}
use Rattle.settle_run.proofs.gifts.begins_with.Goals as goal
use Rattle.std.specs.Prelude.{IsTrue}
use Rattle.threads_instance.specs.declared.doings.Gifts.{Gifts}

pub returns : goal.returns
returns c = λ same.
    let places = c.args.places.now in
    begins_so places c.args.gifts.now c.args.number (get_or places c.args.number 0) c.index-gifts-place.result
    c.args.values.now refl (omega (arith, c.if-place-gifts.false)) c.index-gifts-place.is
    (subst (λ (one : Gifts). IsTrue (same_values one.given c.args.values.now)) (sym c.index-gifts-place.is)
    (sym c.eq.ensures ∙ same))
