use Rattle.std.proofs.Common.{◌≡◌, flat_map, map, take}
use Rattle.build_definitions.specs.Rows.{placed_signal_lists, placed_signal_sets, placed_signals}
use Rattle.build_definitions.specs.Seen.{signal_list_seen, signal_seen, signal_set_seen}
use Rattle.build_definitions.specs.Views.{parts_listed}
use Rattle.build_definitions.proofs.groups.SignalTables.of.Given as goal

abbrev pub invariant-loop-placed : goal.invariant-loop-placed
invariant-loop-placed l = record {
  signals :
      map signal_seen l.tables.signals.items
      ≡ flat_map placed_signals (parts_listed (take l.placed-index l.parts));
  lists :
      map signal_list_seen l.tables.lists.items
      ≡ flat_map placed_signal_lists (parts_listed (take l.placed-index l.parts));
  signal_sets :
      map signal_set_seen l.tables.signal_sets.items
      ≡ flat_map placed_signal_sets (parts_listed (take l.placed-index l.parts));
}
