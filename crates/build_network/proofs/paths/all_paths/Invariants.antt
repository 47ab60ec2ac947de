use Rattle.std.proofs.Common.{◌≡◌, flat_map, map, take}
use Rattle.build_definitions.specs.Seen.{channel_seen}
use Rattle.build_network.specs.Paths.{channel_paths, numbers_from, placed_value}
use Rattle.build_network.proofs.paths.all_paths.Given as goal

abbrev pub invariant-loop-channel : goal.invariant-loop-channel
invariant-loop-channel l = record {
  entries : map placed_value l.paths.entries.items ≡ flat_map channel_paths (map channel_seen (take l.channel-index l.channels));
  numbers : l.paths.numbers.items ≡ numbers_from 0 (map channel_seen (take l.channel-index l.channels));
}
