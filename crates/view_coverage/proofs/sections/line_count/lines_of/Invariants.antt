use Rattle.std.proofs.Common.{◌≡◌, take}
use Rattle.view_coverage.specs.Lcov.{lines_in}
use Rattle.view_coverage.proofs.sections.line_count.lines_of.Given as goal

abbrev pub invariant-loop-section : goal.invariant-loop-section
invariant-loop-section l = l.counts.items ≡ lines_in (take l.section-index l.sections)
