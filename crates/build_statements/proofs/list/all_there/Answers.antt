use Rattle.std.proofs.Common.{◌∙◌, ap, sym}
use Rattle.build_expressions.proofs.ArgumentLemmas.{all_some-last}
use Rattle.build_expressions.specs.Partial.{and_last}
use Rattle.build_statements.proofs.list.all_there.Goals as goal

pub loop-item-preserved : goal.loop-item-preserved
loop-item-preserved g c =
    c.in_ok-found.ensures
    ∙ ap (λ found. and_last found c.in-Some.item) c.loop-item.invariant
    ∙ sym (all_some-last c.loop-item.yielded c.in-Some.item)
