use Rattle.std.proofs.Common.{length, replicate, subst, sym}
use Rattle.build_expressions.specs.declared.scope.Constant.TheVariants.{NoValue}
use Rattle.build_constants.proofs.KnownLemmas.{nothing-known}
use Rattle.build_constants.specs.Known.{IsKnown}
use Rattle.build_constants.proofs.synonyms.known.none_settled.Goals as goal

pub returns : goal.returns
returns c =
    let list = c.args.synonyms.now in
    subst (λ table. IsKnown list table c.in_ok-settled.settled.items)
    (sym (c.in_ok-constants.ensures.items_if_clones_equal (λ y same. same)))
    (subst (λ settled. IsKnown list (replicate (length list) NoValue) settled)
    (sym (c.in_ok-settled.ensures.items_if_clones_equal (λ y same. same)))
    (nothing-known list))
