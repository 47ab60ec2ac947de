use Rattle.std.proofs.Common.{◌≡◌, ◌++◌, drop}
use Rattle.view_coverage.specs.Sections.{answer_rows, rows_listed}
use Rattle.view_coverage.proofs.covered.item_list.add_known.Given as goal

abbrev pub invariant-loop-goal : goal.invariant-loop-goal
invariant-loop-goal l =
    rows_listed l.items.items ++ answer_rows l.process l.counts l.next (drop l.goal-index l.goals)
    ≡ rows_listed l.initial.items.items ++ answer_rows l.process l.counts 0 l.goals
