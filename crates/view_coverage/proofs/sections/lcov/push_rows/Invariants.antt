use Rattle.std.proofs.Common.{◌≡◌, ◌++◌, take}
use Rattle.std.specs.List.{flat_map}
use Rattle.std.specs.String.{string_bytes}
use Rattle.view_coverage.specs.Lcov.{section_branches}
use Rattle.view_coverage.proofs.sections.lcov.push_rows.Given as goal

abbrev pub invariant-loop-section : goal.invariant-loop-section
invariant-loop-section l =
    string_bytes l.text
    ≡ string_bytes l.initial.text ++ flat_map section_branches (take l.section-index l.sections)
