use Rattle.std.proofs.Common.{flat_map, map, take}
use Rattle.sdl_tree.specs.Views.{parameters_value}
use Rattle.build_limits.specs.Counted.{Counts}
use Rattle.build_limits.specs.Limits.{group_names}
use Rattle.build_limits.proofs.limits.count.Count.parameters.Given as goal

abbrev pub invariant-loop-group : goal.invariant-loop-group
invariant-loop-group l =
    Counts l.initial.self l.self (flat_map group_names (map parameters_value (take l.group-index l.group-items)))
