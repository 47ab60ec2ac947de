use Rattle.std.proofs.Common.{◌≡◌, ◌++◌, drop, map}
use Rattle.build_definitions.specs.Seen.{signal_list_seen}
use Rattle.build_definitions.specs.Entries.{entries_of}
use Rattle.build_definitions.specs.Meanings.{lists_from}
use Rattle.build_definitions.proofs.symbols.lists.list_declarations.Given as goal

abbrev pub invariant-loop-entry : goal.invariant-loop-entry
invariant-loop-entry l =
    entries_of l.declarations.items ++ lists_from l.next (map signal_list_seen (drop l.entry-index l.table))
    ≡ lists_from 0 (map signal_list_seen l.table)
