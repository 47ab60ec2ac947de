use Rattle.std.proofs.Common.{◌≡◌, ◌++◌, drop, map}
use Rattle.build_definitions.specs.Parts.{all_parts}
use Rattle.build_definitions.specs.Views.{parts_listed}
use Rattle.sdl_tree.specs.Views.{system_definition_value}
use Rattle.build_definitions.proofs.walk.parts_in.Given as goal

abbrev pub invariant-loop-definition : goal.invariant-loop-definition
invariant-loop-definition l =
    parts_listed l.walk.parts.items
    ++ all_parts l.walk.blocks l.walk.processes (map system_definition_value (drop l.definition-index l.definition-items))
    ≡ all_parts 0 0 (map system_definition_value l.definition-items)
