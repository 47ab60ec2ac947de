use Rattle.std.proofs.Common.{◌≡◌, ◌++◌, take}
use Rattle.std.specs.List.{flat_map}
use Rattle.std.specs.String.{string_bytes}
use Rattle.view_coverage.specs.Plain.{missed_row_if}
use Rattle.view_coverage.proofs.sections.rows.push_missed_section.Given as goal

abbrev pub invariant-loop-item : goal.invariant-loop-item
invariant-loop-item l =
    string_bytes l.text
    ≡ string_bytes l.initial.text
    ++ flat_map (missed_row_if l.widths l.group l.process) (take l.item-index l.section.items.items)
