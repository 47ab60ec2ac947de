use Rattle.std.proofs.Common.{◌≡◌, ◌++◌, drop}
use Rattle.build_names.specs.Labels.{names_listed}
use Rattle.sdl_tree.specs.Views.{states_value}
use Rattle.view_coverage.specs.Stimuli.{states_from}
use Rattle.view_coverage.proofs.goals.part_states.states_in.Given as goal

abbrev pub invariant-loop-state : goal.invariant-loop-state
invariant-loop-state l =
    l.found.items ++ states_from l.next (states_value l.listed) (names_listed (drop l.state-index l.states))
    ≡ states_from 0 (states_value l.listed) (names_listed l.states)
