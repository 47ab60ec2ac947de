use Rattle.build_names.proofs.LabelLemmas.{behind_all, behind_more}
use Rattle.build_names.specs.Labels.{stimulus_labels}
use Rattle.sdl_tree.specs.Views.{stimulus_value}
use Rattle.build_names.proofs.labels.add_stimuli.Goals as goal

pub loop-stimulus-preserved : goal.loop-stimulus-preserved
loop-stimulus-preserved c =
    behind_more stimulus_labels stimulus_value _ _ _ c.args.stimuli.now c.loop-stimulus.stimulus-index
    c.stimulus-item.result c.loop-stimulus-test.true c.stimulus-item.is c.loop-stimulus.invariant
    c.in_ok-add_stimulus.ensures

pub returns : goal.returns
returns c =
    behind_all stimulus_labels stimulus_value _ _ c.args.stimuli.now c.loop-stimulus.stimulus-index
    c.loop-stimulus-test.false c.loop-stimulus.invariant
