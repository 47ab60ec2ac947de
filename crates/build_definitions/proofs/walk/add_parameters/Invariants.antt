use Rattle.std.proofs.Common.{◌≡◌, ◌++◌, flat_map, map, take}
use Rattle.build_definitions.specs.Parts.{parameter_part}
use Rattle.build_definitions.specs.Views.{parts_listed}
use Rattle.sdl_tree.specs.Views.{parameters_value}
use Rattle.build_definitions.proofs.walk.add_parameters.Given as goal

abbrev pub invariant-loop-group : goal.invariant-loop-group
invariant-loop-group l =
    parts_listed l.parts.items
    ≡ parts_listed l.initial.parts.items ++ flat_map (parameter_part l.scope) (map parameters_value (take l.group-index l.groups))
