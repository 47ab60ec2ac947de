use Rattle.std.proofs.Common.{◌≡◌, ◌++◌, take}
use Rattle.std.specs.List.{flat_map}
use Rattle.view_coverage.specs.Lcov.{item_line}
use Rattle.view_coverage.proofs.sections.line_count.add_lines.Given as goal

abbrev pub invariant-loop-item : goal.invariant-loop-item
invariant-loop-item l =
    l.counts.items ≡ l.initial.counts.items ++ flat_map item_line (take l.item-index l.items)
