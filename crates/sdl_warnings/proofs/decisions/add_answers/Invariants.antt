use Rattle.std.proofs.Common.{◌≡◌, ◌≤◌, ◌-◌, ◌++◌, [], drop, length, take}
use Rattle.sdl_warnings.specs.Decisions.{of_answers}
use Rattle.sdl_warnings.proofs.decisions.add_answers.Given as goal

abbrev pub invariant-loop-at : goal.invariant-loop-at
invariant-loop-at l = record {
  within : l.at ≤ length l.answers;
  same : l.found.items ++ of_answers (take l.at l.answers) (drop l.at l.answers)
      ≡ l.fn.found.items ++ of_answers [] l.answers;
}

abbrev pub decreases-loop-at : goal.decreases-loop-at
decreases-loop-at l = length l.answers - l.at
