use Rattle.std.proofs.Common.{◌≡◌, map, take}
use Rattle.build_definitions.specs.Seen.{state_seen}
use Rattle.build_definitions.specs.Entries.{entries_of}
use Rattle.build_definitions.specs.Meanings.{state_entry}
use Rattle.build_definitions.proofs.symbols.states.state_declarations.Given as goal

abbrev pub invariant-loop-entry : goal.invariant-loop-entry
invariant-loop-entry l =
    entries_of l.declarations.items ≡ map state_entry (map state_seen (take l.entry-index l.table))
