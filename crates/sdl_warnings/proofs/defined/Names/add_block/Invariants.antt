use Rattle.std.proofs.Common.{◌≡◌, ◌++◌, drop, map}
use Rattle.std.specs.List.{flat_map}
use Rattle.sdl_tree.specs.Views.{block_part_value}
use Rattle.sdl_warnings.specs.Defined.{known, of_block_part}
use Rattle.sdl_warnings.proofs.defined.Names.add_block.Given as goal

abbrev pub invariant-loop-part : goal.invariant-loop-part
invariant-loop-part l =
    known l.self ++ flat_map of_block_part (map block_part_value (drop l.part-index l.parts))
    ≡ known l.fn.self ++ flat_map of_block_part (map block_part_value l.parts)
