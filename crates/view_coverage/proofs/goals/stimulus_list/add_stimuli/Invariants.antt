use Rattle.std.proofs.Common.{◌≡◌, map, take}
use Rattle.sdl_tree.specs.Views.{stimulus_value}
use Rattle.view_coverage.specs.Stimuli.{signal_outward, with_stimuli}
use Rattle.view_coverage.proofs.goals.stimulus_list.add_stimuli.Given as goal

abbrev pub invariant-loop-stimulus : goal.invariant-loop-stimulus
invariant-loop-stimulus l =
    l.goals
    ≡ with_stimuli (signal_outward l.signals) l.states l.initial.goals
    (map stimulus_value (take l.stimulus-index l.stimuli))
