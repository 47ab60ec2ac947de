use Rattle.std.proofs.Common.{◌≡◌, ◌++◌, flat_map, map, take}
use Rattle.sdl_tree.specs.Views.{block_part_value}
use Rattle.build_limits.specs.Limits.{block_definitions}
use Rattle.build_limits.specs.Listed.{definitions_listed}
use Rattle.build_limits.proofs.limits.add_block.Given as goal

abbrev pub invariant-loop-part : goal.invariant-loop-part
invariant-loop-part l =
    definitions_listed l.definitions.items
    ≡ definitions_listed l.initial.definitions.items
    ++ flat_map block_definitions (map block_part_value (take l.part-index l.part-items))
