use Rattle.std.proofs.Common.{[], ◌∙◌, ap, flat_map, map}
use Rattle.sdl_tree.specs.Views.{system_definition_value}
use Rattle.build_limits.specs.Limits.{system_definitions}
use Rattle.build_limits.proofs.ListLemmas.{behind_all, behind_more}
use Rattle.build_limits.proofs.limits.definitions_in.Goals as goal

pub loop-definition-preserved : goal.loop-definition-preserved
loop-definition-preserved c =
    behind_more system_definitions system_definition_value [] _ _ c.deref-definition-items.result.now
    c.loop-definition.definition-index
    c.definition-item.result c.loop-definition-test.true c.definition-item.is c.loop-definition.invariant
    c.in_ok-add_definitions.ensures

pub returns : goal.returns
returns c =
    behind_all system_definitions system_definition_value [] _ c.deref-definition-items.result.now
    c.loop-definition.definition-index
    c.loop-definition-test.false c.loop-definition.invariant
    ∙ ap (λ l. flat_map system_definitions (map system_definition_value l)) c.deref-definition-items.ensures.value
