use Rattle.std.proofs.Common.{◌≡◌, map, take}
use Rattle.build_definitions.specs.Seen.{block_seen}
use Rattle.build_network.specs.Network.{blocks_in}
use Rattle.build_network.proofs.network.blocks_in.Given as goal

abbrev pub invariant-loop-index : goal.invariant-loop-index
invariant-loop-index l = l.blocks.items ≡ blocks_in l.symbols (map block_seen (take l.index l.entries))
