use Rattle.sdl_tree.specs.Views.{variables_value}
use Rattle.build_definitions.specs.Parts.{variable_part}
use Rattle.build_definitions.proofs.ListLemmas.{behind_all, behind_more}
use Rattle.build_definitions.proofs.walk.add_variables.Goals as goal

pub loop-group-preserved : goal.loop-group-preserved
loop-group-preserved c =
    behind_more variables_value _ _ _ c.args.groups.now c.loop-group.group-index
    c.group-item.result c.loop-group-test.true c.group-item.is (variable_part c.args.scope) c.loop-group.invariant
    c.in_ok-push.ensures

pub returns : goal.returns
returns c =
    behind_all variables_value _ _ c.args.groups.now c.loop-group.group-index (variable_part c.args.scope)
    c.loop-group-test.false c.loop-group.invariant
