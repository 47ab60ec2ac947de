use Rattle.std.proofs.Common.{◌≡◌, ◌++◌, take}
use Rattle.std.specs.List.{flat_map}
use Rattle.std.specs.String.{string_bytes}
use Rattle.view_coverage.specs.Lcov.{line_row}
use Rattle.view_coverage.proofs.sections.lcov.push_line_rows.Given as goal

abbrev pub invariant-loop-count : goal.invariant-loop-count
invariant-loop-count l =
    string_bytes l.text ≡ string_bytes l.initial.text ++ flat_map line_row (take l.count-index l.lines)
