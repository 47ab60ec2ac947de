-- The order doesn't matter.
use Rattle.std.proofs.Common.{List, subst}
use Rattle.settle_checks.proofs.CoveredLemmas.{covered_sorted}
use Rattle.settle_checks.specs.Crossings.{Covers}
use Rattle.settle_checks.specs.declared.summing.crossings.Crossing.{Crossing}
use Rattle.settle_checks.proofs.summing.covered.are_covered.Goals as goal

pub returns : goal.returns
returns c = λ all.
    let left : List Crossing = c.sort_by_key.new.self.items in
    let due : List Crossing = c.sort_by_key-2.new.self.items in
    let covers : Covers left due =
    subst (λ (l : List Crossing). Covers l due) c.deref_mut.ensures.value
    (subst (λ (l : List Crossing). Covers c.deref_mut.result.now l) c.deref.ensures.value (c.use_all.ensures all)) in
    covered_sorted c.args.sent.items c.args.taken.items left due c.in_ok-sort_by_key.ensures.permutation
    c.in_ok-sort_by_key-2.ensures.permutation covers
