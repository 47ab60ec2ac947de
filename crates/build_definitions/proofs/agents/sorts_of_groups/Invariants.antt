use Rattle.std.proofs.Common.{◌≡◌, flat_map, map, take}
use Rattle.build_definitions.specs.Rows.{group_sorts}
use Rattle.sdl_tree.specs.Views.{parameters_value}
use Rattle.build_definitions.proofs.agents.sorts_of_groups.Given as goal

abbrev pub invariant-loop-group : goal.invariant-loop-group
invariant-loop-group l = l.sorts.items ≡ flat_map group_sorts (map parameters_value (take l.group-index l.groups))
