use Rattle.sdl_tree.specs.Views.{local_value}
use Rattle.build_definitions.specs.Parts.{local_parts}
use Rattle.build_definitions.proofs.ListLemmas.{behind_all, behind_more}
use Rattle.build_definitions.proofs.walk.add_locals.Goals as goal

pub loop-definition-preserved : goal.loop-definition-preserved
loop-definition-preserved c =
    behind_more local_value _ _ _ c.args.definitions.now c.loop-definition.definition-index
    c.definition-item.result c.loop-definition-test.true c.definition-item.is (local_parts c.args.scope)
    c.loop-definition.invariant c.in_ok-add_local.ensures

pub returns : goal.returns
returns c =
    behind_all local_value _ _ c.args.definitions.now c.loop-definition.definition-index (local_parts c.args.scope)
    c.loop-definition-test.false c.loop-definition.invariant
