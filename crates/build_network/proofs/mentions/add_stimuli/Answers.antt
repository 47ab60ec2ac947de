use Rattle.build_network.specs.Processes.{stimulus_items}
use Rattle.build_network.specs.Seen.{seen_of}
use Rattle.sdl_tree.specs.Views.{stimulus_value}
use Rattle.build_network.proofs.BehindLemmas.{behind_all, behind_more}
use Rattle.build_network.proofs.mentions.add_stimuli.Goals as goal

pub loop-stimulus-preserved : goal.loop-stimulus-preserved
loop-stimulus-preserved c =
    behind_more (stimulus_items (seen_of c.args.seen.now)) stimulus_value _ _ _ c.args.stimuli.now
    c.loop-stimulus.stimulus-index
    c.stimulus-item.result c.loop-stimulus-test.true c.stimulus-item.is c.loop-stimulus.invariant
    c.in_ok-add_stimulus.ensures

pub returns : goal.returns
returns c =
    behind_all (stimulus_items (seen_of c.args.seen.now)) stimulus_value _ _ c.args.stimuli.now
    c.loop-stimulus.stimulus-index
    c.loop-stimulus-test.false c.loop-stimulus.invariant
