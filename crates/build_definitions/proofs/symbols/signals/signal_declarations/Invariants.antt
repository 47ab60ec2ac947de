use Rattle.std.proofs.Common.{◌≡◌, ◌++◌, drop, map}
use Rattle.build_definitions.specs.Seen.{signal_seen}
use Rattle.build_definitions.specs.Entries.{entry_seen}
use Rattle.build_definitions.specs.Meanings.{signals_from}
use Rattle.build_expressions.specs.Scope.{signal_meaning}
use Rattle.build_definitions.proofs.symbols.signals.signal_declarations.Given as goal

abbrev pub invariant-loop-entry : goal.invariant-loop-entry
invariant-loop-entry l =
    map (entry_seen signal_meaning) l.declarations.items
    ++ signals_from l.next (map signal_seen (drop l.entry-index l.table))
    ≡ signals_from 0 (map signal_seen l.table)
