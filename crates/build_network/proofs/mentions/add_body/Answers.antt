use Rattle.build_network.specs.Processes.{part_items}
use Rattle.build_network.specs.Seen.{seen_of}
use Rattle.sdl_tree.specs.Views.{body_part_value}
use Rattle.build_network.proofs.BehindLemmas.{behind_all, behind_more}
use Rattle.build_network.proofs.mentions.add_body.Goals as goal

pub loop-part-preserved : goal.loop-part-preserved
loop-part-preserved c =
    behind_more (part_items (seen_of c.args.seen.now)) body_part_value _ _ _ c.args.body.now c.loop-part.part-index
    c.part-item.result c.loop-part-test.true c.part-item.is c.loop-part.invariant
    c.in_ok-add_part.ensures

pub returns : goal.returns
returns c =
    behind_all (part_items (seen_of c.args.seen.now)) body_part_value _ _ c.args.body.now c.loop-part.part-index
    c.loop-part-test.false c.loop-part.invariant
