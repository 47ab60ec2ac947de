use Rattle.std.proofs.Common.{◌≡◌, map, take}
use Rattle.build_names.specs.Labels.{names_listed}
use Rattle.sdl_tree.specs.Views.{body_part_value}
use Rattle.view_coverage.specs.Stimuli.{signal_outward, stimuli_in}
use Rattle.view_coverage.proofs.goals.stimulus_list.stimuli_of.Given as goal

abbrev pub invariant-loop-part : goal.invariant-loop-part
invariant-loop-part l =
    l.goals
    ≡ stimuli_in (signal_outward l.signals) (names_listed l.states) (map body_part_value (take l.part-index l.body))
