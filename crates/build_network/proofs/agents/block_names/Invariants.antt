use Rattle.std.proofs.Common.{◌≡◌, map, take}
use Rattle.build_definitions.specs.Seen.{block_seen}
use Rattle.build_network.specs.Agents.{block_names}
use Rattle.build_network.proofs.agents.block_names.Given as goal

abbrev pub invariant-loop-index : goal.invariant-loop-index
invariant-loop-index l = l.names ≡ block_names (map block_seen (take l.index l.blocks))
