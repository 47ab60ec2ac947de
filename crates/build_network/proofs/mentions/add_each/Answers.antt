use Rattle.build_network.specs.Processes.{input_item}
use Rattle.build_network.specs.Seen.{seen_of}
use Rattle.sdl_tree.specs.Views.{input_value}
use Rattle.build_network.proofs.BehindLemmas.{behind_all, behind_more}
use Rattle.build_network.proofs.mentions.add_each.Goals as goal

pub loop-input-preserved : goal.loop-input-preserved
loop-input-preserved c =
    behind_more (input_item (seen_of c.args.seen.now)) input_value _ _ _ c.args.inputs.now c.loop-input.input-index
    c.input-item.result c.loop-input-test.true c.input-item.is c.loop-input.invariant
    c.in_ok-add_input.ensures

pub returns : goal.returns
returns c =
    behind_all (input_item (seen_of c.args.seen.now)) input_value _ _ c.args.inputs.now c.loop-input.input-index
    c.loop-input-test.false c.loop-input.invariant
