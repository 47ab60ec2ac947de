use Rattle.std.proofs.Common.{◌≡◌, flat_map, map, take}
use Rattle.build_definitions.specs.Rows.{placed_labels, placed_states}
use Rattle.build_definitions.specs.Seen.{label_seen, state_seen}
use Rattle.build_definitions.specs.Views.{parts_listed}
use Rattle.build_definitions.proofs.groups.PlaceTables.of.Given as goal

abbrev pub invariant-loop-placed : goal.invariant-loop-placed
invariant-loop-placed l = record {
  labels :
      map label_seen l.tables.labels.items
      ≡ flat_map placed_labels (parts_listed (take l.placed-index l.parts));
  states :
      map state_seen l.tables.states.items
      ≡ flat_map placed_states (parts_listed (take l.placed-index l.parts));
}
