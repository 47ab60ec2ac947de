use Rattle.std.proofs.Common.{◌≡◌, take}
use Rattle.view_coverage.specs.Group.{missed_of}
use Rattle.view_coverage.proofs.sections.group.missed_of.Given as goal

abbrev pub invariant-loop-section : goal.invariant-loop-section
invariant-loop-section l = l.missed ≡ missed_of l.group (take l.section-index l.sections)
