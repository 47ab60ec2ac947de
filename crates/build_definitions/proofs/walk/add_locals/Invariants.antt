use Rattle.std.proofs.Common.{◌≡◌, ◌++◌, flat_map, map, take}
use Rattle.build_definitions.specs.Parts.{local_parts}
use Rattle.build_definitions.specs.Views.{parts_listed}
use Rattle.sdl_tree.specs.Views.{local_value}
use Rattle.build_definitions.proofs.walk.add_locals.Given as goal

abbrev pub invariant-loop-definition : goal.invariant-loop-definition
invariant-loop-definition l =
    parts_listed l.parts.items
    ≡ parts_listed l.initial.parts.items ++ flat_map (local_parts l.scope) (map local_value (take l.definition-index l.definitions))
