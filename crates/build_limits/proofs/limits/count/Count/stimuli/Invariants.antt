use Rattle.std.proofs.Common.{flat_map, map, take}
use Rattle.sdl_tree.specs.Views.{stimulus_value}
use Rattle.build_limits.specs.Counted.{Counts}
use Rattle.build_limits.specs.Limits.{stimulus_statements}
use Rattle.build_limits.proofs.limits.count.Count.stimuli.Given as goal

abbrev pub invariant-loop-stimulus : goal.invariant-loop-stimulus
invariant-loop-stimulus l =
    Counts l.initial.self l.self (flat_map stimulus_statements (map stimulus_value (take l.stimulus-index l.stimuli)))
