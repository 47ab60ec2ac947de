use Rattle.std.proofs.Common.{◌≡◌, ◌++◌, drop, map}
use Rattle.build_definitions.specs.Seen.{process_seen}
use Rattle.view_coverage.specs.Goals.{all_goals, goals_from, goals_seen}
use Rattle.view_coverage.proofs.goals.all.processes_of.Given as goal

abbrev pub invariant-loop-entry : goal.invariant-loop-entry
invariant-loop-entry l =
    map goals_seen l.processes.items
    ++ goals_from l.symbols.signals (map process_seen l.definitions.processes.items) l.next
    (map process_seen (drop l.entry-index l.definitions.processes.items))
    ≡ all_goals l.symbols.signals (map process_seen l.definitions.processes.items)
