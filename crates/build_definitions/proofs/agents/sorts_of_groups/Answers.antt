use Rattle.std.proofs.Common.{[]}
use Rattle.sdl_tree.specs.Views.{parameters_value}
use Rattle.build_definitions.specs.Rows.{group_sorts}
use Rattle.build_definitions.proofs.ListLemmas.{behind_all, behind_more}
use Rattle.build_definitions.proofs.agents.sorts_of_groups.Goals as goal

pub loop-group-preserved : goal.loop-group-preserved
loop-group-preserved c =
    behind_more parameters_value [] _ _ c.args.groups.now c.loop-group.group-index
    c.group-item.result c.loop-group-test.true c.group-item.is group_sorts c.loop-group.invariant
    c.in_ok-add_group.ensures

pub returns : goal.returns
returns c =
    behind_all parameters_value [] _ c.args.groups.now c.loop-group.group-index group_sorts
    c.loop-group-test.false c.loop-group.invariant
