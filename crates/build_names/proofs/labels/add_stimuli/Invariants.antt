use Rattle.std.proofs.Common.{◌≡◌, ◌++◌, flat_map, map, take}
use Rattle.build_names.specs.Labels.{names_listed, stimulus_labels}
use Rattle.sdl_tree.specs.Views.{stimulus_value}
use Rattle.build_names.proofs.labels.add_stimuli.Given as goal

abbrev pub invariant-loop-stimulus : goal.invariant-loop-stimulus
invariant-loop-stimulus l =
    names_listed l.labels.items
    ≡ names_listed l.initial.labels.items
    ++ flat_map stimulus_labels (map stimulus_value (take l.stimulus-index l.stimuli))
