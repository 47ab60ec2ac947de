use Rattle.std.proofs.Common.{◌≡◌, ◌++◌, take}
use Rattle.std.specs.String.{string_bytes}
use Rattle.view_coverage.specs.Plain.{item_rows}
use Rattle.view_coverage.proofs.sections.rows.push_items.Given as goal

abbrev pub invariant-loop-item : goal.invariant-loop-item
invariant-loop-item l =
    string_bytes l.text ≡ string_bytes l.initial.text ++ item_rows l.widths (take l.item-index l.items)
