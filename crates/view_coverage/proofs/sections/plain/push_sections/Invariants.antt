use Rattle.std.proofs.Common.{◌≡◌, ◌++◌, take}
use Rattle.std.specs.String.{string_bytes}
use Rattle.view_coverage.specs.Plain.{sections_text}
use Rattle.view_coverage.proofs.sections.plain.push_sections.Given as goal

abbrev pub invariant-loop-section : goal.invariant-loop-section
invariant-loop-section l =
    string_bytes l.text
    ≡ string_bytes l.initial.text ++ sections_text l.widths l.knowledge (take l.section-index l.sections)
