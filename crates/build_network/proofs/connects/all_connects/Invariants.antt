use Rattle.std.proofs.Common.{◌≡◌, flat_map, map, take}
use Rattle.build_definitions.specs.Seen.{connection_seen}
use Rattle.build_network.specs.Connects.{connect_value, connects_of}
use Rattle.build_network.proofs.connects.all_connects.Given as goal

abbrev pub invariant-loop-entry : goal.invariant-loop-entry
invariant-loop-entry l =
    map connect_value l.connects.items ≡ flat_map (connects_of l.symbols l.numbers)
    (map connection_seen (take l.entry-index l.entries))
