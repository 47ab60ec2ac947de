use Rattle.std.proofs.Common.{◌≡◌, ◌++◌, ◌+◌, ◌*◌, length, map, take}
use Rattle.build_definitions.specs.Seen.{process_seen}
use Rattle.build_network.specs.Processes.{process_lists, processes_from}
use Rattle.build_network.specs.Seen.{list_items}
use Rattle.build_network.proofs.processes.add_processes.Given as goal

abbrev pub invariant-loop-index : goal.invariant-loop-index
invariant-loop-index l = record {
  processes : l.processes.items ≡ processes_from (length l.initial.lists.items)
      (map process_seen (take l.index l.entries));
  lists : map list_items l.lists.items
      ≡ map list_items l.initial.lists.items ++ process_lists l.symbols (map process_seen (take l.index l.entries));
  count : length l.lists.items ≡ length l.initial.lists.items + 2 * l.index;
}
