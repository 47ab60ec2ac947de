use Rattle.std.proofs.Common.{[], ◌∙◌, ap, map}
use Rattle.std.proofs.lemmas.List.{take_all}
use Rattle.build_definitions.proofs.ListLemmas.{mapped_more}
use Rattle.build_definitions.specs.Sorts.{sort_at}
use Rattle.sdl_tree.specs.Views.{sort_value}
use Rattle.build_definitions.proofs.sorts.sorts_at.Goals as goal

pub loop-name-preserved : goal.loop-name-preserved
loop-name-preserved c =
    mapped_more sort_value [] _ _ c.args.names.now c.loop-name.name-index c.name-item.result c.loop-name-test.true
    c.name-item.is sort_at _ c.loop-name.invariant c.sort_at.ensures c.in_ok-enter.ensures

pub returns : goal.returns
returns c =
    c.loop-name.invariant
    ∙ ap (λ l. map sort_at (map sort_value l)) (take_all c.loop-name.name-index c.args.names.now c.loop-name-test.false)
