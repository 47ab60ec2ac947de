use Rattle.std.proofs.Common.{◌≡◌, map, take}
use Rattle.build_definitions.specs.Seen.{value_seen}
use Rattle.build_definitions.specs.Entries.{entries_of}
use Rattle.build_definitions.specs.Meanings.{value_entry}
use Rattle.build_definitions.proofs.symbols.values.value_declarations.Given as goal

abbrev pub invariant-loop-entry : goal.invariant-loop-entry
invariant-loop-entry l =
    entries_of l.declarations.items ≡ map value_entry (map value_seen (take l.entry-index l.table))
