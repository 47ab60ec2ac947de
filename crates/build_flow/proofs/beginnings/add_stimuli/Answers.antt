use Rattle.std.proofs.Common.{◌∙◌, ◌++◌, ap, flat_map, map, take}
use Rattle.sdl_tree.specs.Views.{stimulus_value}
use Rattle.build_flow.specs.Beginnings.{stimulus_beginnings}
use Rattle.build_flow.specs.Listed.{beginnings_listed}
use Rattle.build_flow.proofs.StepLemmas.{taken-more}
use Rattle.build_flow.proofs.TreeLemmas.{then}
use Rattle.build_flow.proofs.beginnings.add_stimuli.Goals as goal

pub loop-stimulus-preserved : goal.loop-stimulus-preserved
loop-stimulus-preserved c =
    let before = beginnings_listed c.args.list.now.items in
    let i = c.loop-stimulus.stimulus-index in
    let stimulus = c.stimulus-item.result in
    then before (beginnings_listed c.loop-stimulus.list.items) (beginnings_listed c.add_stimulus.new.list.items)
    (flat_map stimulus_beginnings (map stimulus_value (take i c.args.stimuli.now)))
    (stimulus_beginnings (stimulus_value stimulus)) c.loop-stimulus.invariant c.in_ok-add_stimulus.ensures
    ∙ ap (λ list. before ++ list) (taken-more stimulus_beginnings stimulus_value c.args.stimuli.now i stimulus
    c.loop-stimulus-test.true c.stimulus-item.is)
