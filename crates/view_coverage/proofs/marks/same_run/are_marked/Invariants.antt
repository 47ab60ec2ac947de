use Rattle.std.proofs.Common.{◌≡◌, map, take}
use Rattle.view_coverage.specs.Marks.{deeds, unmarked}
use Rattle.view_coverage.proofs.marks.same_run.are_marked.Given as goal

abbrev pub invariant-loop-index : goal.invariant-loop-index
invariant-loop-index l = map deeds (take l.index l.plain) ≡ map (unmarked l.system) (take l.index l.marked)
