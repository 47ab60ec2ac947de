use Rattle.std.proofs.Common.{◌≡◌, ◌++◌, flat_map, map, take}
use Rattle.sdl_tree.specs.Views.{stimulus_value}
use Rattle.build_flow.specs.Beginnings.{stimulus_beginnings}
use Rattle.build_flow.specs.Listed.{beginnings_listed}
use Rattle.build_flow.proofs.beginnings.add_stimuli.Given as goal

abbrev pub invariant-loop-stimulus : goal.invariant-loop-stimulus
invariant-loop-stimulus l =
    beginnings_listed l.list.items
    ≡ beginnings_listed l.initial.list.items
    ++ flat_map stimulus_beginnings (map stimulus_value (take l.stimulus-index l.stimuli))
