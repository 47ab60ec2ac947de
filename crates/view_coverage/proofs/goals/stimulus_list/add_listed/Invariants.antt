use Rattle.std.proofs.Common.{◌≡◌, ◌++◌, map, take}
use Rattle.sdl_tree.specs.Views.{input_value}
use Rattle.view_coverage.specs.Stimuli.{listed_goals, signal_outward}
use Rattle.view_coverage.proofs.goals.stimulus_list.add_listed.Given as goal

abbrev pub invariant-loop-input : goal.invariant-loop-input
invariant-loop-input l =
    l.goals
    ≡ l.initial.goals
    ++ listed_goals (signal_outward l.signals) l.states l.urgency (map input_value (take l.input-index l.inputs))
