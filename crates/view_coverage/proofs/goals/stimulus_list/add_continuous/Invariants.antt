use Rattle.std.proofs.Common.{◌≡◌, fold, take}
use Rattle.view_coverage.specs.Stimuli.{with_continuous}
use Rattle.view_coverage.proofs.goals.stimulus_list.add_continuous.Given as goal

abbrev pub invariant-loop-state : goal.invariant-loop-state
invariant-loop-state l = l.goals ≡ fold (with_continuous l.place) l.initial.goals (take l.state-index l.states)
