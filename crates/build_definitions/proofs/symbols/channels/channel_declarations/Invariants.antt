use Rattle.std.proofs.Common.{◌≡◌, ◌++◌, drop, map}
use Rattle.build_definitions.specs.Seen.{channel_seen}
use Rattle.build_definitions.specs.Entries.{entries_of}
use Rattle.build_definitions.specs.Meanings.{channels_from}
use Rattle.build_definitions.proofs.symbols.channels.channel_declarations.Given as goal

abbrev pub invariant-loop-entry : goal.invariant-loop-entry
invariant-loop-entry l =
    entries_of l.declarations.items ++ channels_from l.next (map channel_seen (drop l.entry-index l.table))
    ≡ channels_from 0 (map channel_seen l.table)
