use Rattle.std.proofs.Common.{◌≡◌, ◌++◌, take}
use Rattle.view_coverage.specs.Stimuli.{goals_at}
use Rattle.view_coverage.proofs.goals.stimulus_list.add_each.Given as goal

abbrev pub invariant-loop-state : goal.invariant-loop-state
invariant-loop-state l = l.goals ≡ l.initial.goals ++ goals_at (take l.state-index l.states) l.place l.awaited
