use Rattle.std.proofs.Common.{◌∙◌, ◌++◌, ap, flat_map, map}
use Rattle.sdl_tree.specs.Views.{block_part_value}
use Rattle.build_limits.specs.Limits.{block_definitions}
use Rattle.build_limits.specs.Listed.{definitions_listed}
use Rattle.build_limits.proofs.ListLemmas.{behind_all, behind_more}
use Rattle.build_limits.proofs.limits.add_block.Goals as goal

pub loop-part-preserved : goal.loop-part-preserved
loop-part-preserved c =
    behind_more block_definitions block_part_value _ _ _ c.deref-part-items.result.now c.loop-part.part-index
    c.part-item.result c.loop-part-test.true c.part-item.is c.loop-part.invariant
    c.in_ok-add_block_part.ensures

pub returns : goal.returns
returns c =
    behind_all block_definitions block_part_value _ _ c.deref-part-items.result.now c.loop-part.part-index
    c.loop-part-test.false c.loop-part.invariant
    ∙ ap (λ l. definitions_listed c.args.definitions.now.items ++ flat_map block_definitions (map block_part_value l))
    c.deref-part-items.ensures.value
