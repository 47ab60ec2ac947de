use Rattle.std.proofs.Common.{◌≡◌, ◌++◌, drop, map}
use Rattle.build_definitions.specs.Parts.{after_block_parts, block_parts}
use Rattle.build_definitions.specs.Views.{parts_listed}
use Rattle.sdl_tree.specs.Views.{block_part_value}
use Rattle.build_definitions.proofs.walk.Walk.add_block_parts.Given as goal

abbrev pub invariant-loop-part : goal.invariant-loop-part
invariant-loop-part l = record {
  parts :
      parts_listed l.self.parts.items
      ++ block_parts l.scope l.self.processes (map block_part_value (drop l.part-index l.parts))
      ≡ parts_listed l.initial.self.parts.items
      ++ block_parts l.scope l.initial.self.processes (map block_part_value l.parts);
  blocks : l.self.blocks ≡ l.initial.self.blocks;
  processes :
      after_block_parts l.self.processes (map block_part_value (drop l.part-index l.parts))
      ≡ after_block_parts l.initial.self.processes (map block_part_value l.parts);
}
