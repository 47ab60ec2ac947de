use Rattle.std.proofs.Common.{◌∙◌, ◌++◌, ap, refl}
use Rattle.std.proofs.lemmas.List.{take_all}
use Rattle.sdl_tree.specs.Views.{name_value, names_value}
use Rattle.sdl_tree.specs.Words.{Spot}
use Rattle.build_definitions.specs.Rows.{repeated}
use Rattle.build_definitions.proofs.ListLemmas.{mapped_more}
use Rattle.build_definitions.proofs.agents.add_group.Goals as goal

pub loop-name-preserved : goal.loop-name-preserved
loop-name-preserved c =
    let sort = c.sort_at-sort.result in
    mapped_more name_value _ _ _ c.deref-name-items.result.now c.loop-name._name-index c._name-item.result
    c.loop-name-test.true c._name-item.is (λ (name : Spot). sort) sort c.loop-name.invariant refl c.in_ok-enter.ensures

pub returns : goal.returns
returns c =
    let old = c.args.sorts.now.items in
    let names = c.args.group.now.names.items in
    let sort = c.sort_at-sort.result in
    c.loop-name.invariant
    ∙ ap (λ l. old ++ repeated sort (names_value l)) (take_all c.loop-name._name-index c.deref-name-items.result.now
    c.loop-name-test.false ∙ c.deref-name-items.ensures.value)
    ∙ ap (λ s. old ++ repeated s (names_value names)) c.sort_at-sort.ensures
