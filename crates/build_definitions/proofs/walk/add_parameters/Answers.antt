use Rattle.sdl_tree.specs.Views.{parameters_value}
use Rattle.build_definitions.specs.Parts.{parameter_part}
use Rattle.build_definitions.proofs.ListLemmas.{behind_all, behind_more}
use Rattle.build_definitions.proofs.walk.add_parameters.Goals as goal

pub loop-group-preserved : goal.loop-group-preserved
loop-group-preserved c =
    behind_more parameters_value _ _ _ c.args.groups.now c.loop-group.group-index
    c.group-item.result c.loop-group-test.true c.group-item.is (parameter_part c.args.scope) c.loop-group.invariant
    c.in_ok-push.ensures

pub returns : goal.returns
returns c =
    behind_all parameters_value _ _ c.args.groups.now c.loop-group.group-index (parameter_part c.args.scope)
    c.loop-group-test.false c.loop-group.invariant
