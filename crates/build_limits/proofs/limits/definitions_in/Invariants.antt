use Rattle.std.proofs.Common.{◌≡◌, flat_map, map, take}
use Rattle.sdl_tree.specs.Views.{system_definition_value}
use Rattle.build_limits.specs.Limits.{system_definitions}
use Rattle.build_limits.specs.Listed.{definitions_listed}
use Rattle.build_limits.proofs.limits.definitions_in.Given as goal

abbrev pub invariant-loop-definition : goal.invariant-loop-definition
invariant-loop-definition l =
    definitions_listed l.definitions.items
    ≡ flat_map system_definitions (map system_definition_value (take l.definition-index l.definition-items))
