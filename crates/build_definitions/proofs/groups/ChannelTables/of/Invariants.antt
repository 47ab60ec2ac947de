use Rattle.std.proofs.Common.{◌≡◌, flat_map, map, take}
use Rattle.build_definitions.specs.Rows.{placed_channels, placed_connections}
use Rattle.build_definitions.specs.Seen.{channel_seen, connection_seen}
use Rattle.build_definitions.specs.Views.{parts_listed}
use Rattle.build_definitions.proofs.groups.ChannelTables.of.Given as goal

abbrev pub invariant-loop-placed : goal.invariant-loop-placed
invariant-loop-placed l = record {
  channels :
      map channel_seen l.tables.channels.items
      ≡ flat_map placed_channels (parts_listed (take l.placed-index l.parts));
  connections :
      map connection_seen l.tables.connections.items
      ≡ flat_map placed_connections (parts_listed (take l.placed-index l.parts));
}
