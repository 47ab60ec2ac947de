use Rattle.std.proofs.Common.{◌≡◌, ◌++◌, ◌+◌, length, map, take}
use Rattle.build_network.specs.Paths.{carried, paths_from, placed_value}
use Rattle.build_network.specs.Seen.{list_items}
use Rattle.build_network.proofs.paths.add_paths.Given as goal

abbrev pub invariant-loop-entry : goal.invariant-loop-entry
invariant-loop-entry l = record {
  paths : l.paths.items ≡ paths_from l.symbols l.blocks (length l.initial.lists.items)
      (map placed_value (take l.entry-index l.entries));
  lists : map list_items l.lists.items
      ≡ map list_items l.initial.lists.items
      ++ map (carried l.symbols l.blocks) (map placed_value (take l.entry-index l.entries));
  count : length l.lists.items ≡ length l.initial.lists.items + l.entry-index;
}
