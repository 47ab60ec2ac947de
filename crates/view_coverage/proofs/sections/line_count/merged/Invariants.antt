use Rattle.std.proofs.Common.{ℕ, ◌<◌, ◌≤◌, get_or, length, take}
use Rattle.view_coverage.specs.Lcov.{AreInOrder, AreUpTo, SumsUp}
use Rattle.view_coverage.specs.declared.sections.line_count.LineCount.{LineCount}
use Rattle.view_coverage.proofs.sections.line_count.merged.Given as goal

abbrev pub invariant-loop-count : goal.invariant-loop-count
invariant-loop-count l =
    SumsUp (take l.count-index l.counts) l.lines.items
    × ((j : ℕ) (d : LineCount) → l.count-index ≤ j → j < length l.counts
    → AreUpTo (get_or l.counts j d).line l.lines.items)
    × AreInOrder l.lines.items
