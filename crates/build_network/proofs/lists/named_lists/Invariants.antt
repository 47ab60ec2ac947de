use Rattle.std.proofs.Common.{◌≡◌, length, map, take}
use Rattle.build_definitions.specs.Seen.{signal_list_seen}
use Rattle.build_definitions.specs.Definitions.{rows_of}
use Rattle.build_network.specs.Lists.{list_at}
use Rattle.build_network.specs.Seen.{list_items}
use Rattle.build_network.proofs.lists.named_lists.Given as goal

abbrev pub invariant-loop-entry : goal.invariant-loop-entry
invariant-loop-entry l = record {
  lists : map list_items l.lists.items ≡ map (list_at l.symbols (rows_of l.definitions).processes)
      (map signal_list_seen (take l.entry-index l.definitions.lists.items));
  count : length l.lists.items ≡ l.entry-index;
}
