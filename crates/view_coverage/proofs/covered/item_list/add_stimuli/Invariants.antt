use Rattle.std.proofs.Common.{◌≡◌, ◌++◌, map, take}
use Rattle.view_coverage.specs.Sections.{rows_listed, stimulus_row}
use Rattle.view_coverage.proofs.covered.item_list.add_stimuli.Given as goal

abbrev pub invariant-loop-goal : goal.invariant-loop-goal
invariant-loop-goal l =
    rows_listed l.items.items
    ≡ rows_listed l.initial.items.items
    ++ map (stimulus_row l.material.system.now l.material.counts.now l.goals.number l.goals.states.items)
    (take l.goal-index l.goals.stimuli.items)
