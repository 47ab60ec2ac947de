use Rattle.std.proofs.Common.{◌≡◌, map, take}
use Rattle.build_definitions.specs.Seen.{label_seen}
use Rattle.build_definitions.specs.Entries.{entries_of}
use Rattle.build_definitions.specs.Meanings.{label_entry}
use Rattle.build_definitions.proofs.symbols.labels.label_declarations.Given as goal

abbrev pub invariant-loop-entry : goal.invariant-loop-entry
invariant-loop-entry l =
    entries_of l.declarations.items ≡ map label_entry (map label_seen (take l.entry-index l.table))
