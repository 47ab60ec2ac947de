use Rattle.std.proofs.Common.{take}
use Rattle.std.specs.List.{AllZip}
use Rattle.view_coverage.specs.Sections.{IsSection, sources_of}
use Rattle.view_coverage.proofs.covered.section.sections_of.Given as goal

abbrev pub invariant-loop-goals : goal.invariant-loop-goals
invariant-loop-goals l = AllZip (IsSection (sources_of l.material)) (take l.goals-index l.goals-items) l.sections.items
