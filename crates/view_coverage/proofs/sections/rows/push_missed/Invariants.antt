use Rattle.std.proofs.Common.{◌≡◌, ◌++◌, take}
use Rattle.std.specs.String.{string_bytes}
use Rattle.view_coverage.specs.Plain.{missed_rows}
use Rattle.view_coverage.proofs.sections.rows.push_missed.Given as goal

abbrev pub invariant-loop-section : goal.invariant-loop-section
invariant-loop-section l =
    string_bytes l.text
    ≡ string_bytes l.initial.text ++ missed_rows l.widths l.group (take l.section-index l.sections)
