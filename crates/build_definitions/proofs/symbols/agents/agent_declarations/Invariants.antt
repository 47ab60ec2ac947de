use Rattle.std.proofs.Common.{◌≡◌, map, take}
use Rattle.build_definitions.specs.Seen.{agent_seen, process_seen}
use Rattle.build_definitions.specs.Entries.{entry_seen}
use Rattle.build_definitions.specs.Meanings.{agent_entry}
use Rattle.build_expressions.specs.Scope.{agent_meaning}
use Rattle.build_definitions.proofs.symbols.agents.agent_declarations.Given as goal

abbrev pub invariant-loop-entry : goal.invariant-loop-entry
invariant-loop-entry l =
    map (entry_seen agent_meaning) l.declarations.items
    ≡ map (agent_entry (map process_seen l.processes)) (map agent_seen (take l.entry-index l.table))
