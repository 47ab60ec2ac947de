use Rattle.std.proofs.Common.{◌≡◌, flat_map, map, take}
use Rattle.build_definitions.specs.Rows.{placed_agents, placed_blocks, placed_processes}
use Rattle.build_definitions.specs.Seen.{agent_seen, block_seen, process_seen}
use Rattle.build_definitions.specs.Views.{parts_listed}
use Rattle.build_definitions.proofs.groups.AgentTables.of.Given as goal

abbrev pub invariant-loop-placed : goal.invariant-loop-placed
invariant-loop-placed l = record {
  blocks :
      map block_seen l.tables.blocks.items
      ≡ flat_map placed_blocks (parts_listed (take l.placed-index l.parts));
  processes :
      map process_seen l.tables.processes.items
      ≡ flat_map placed_processes (parts_listed (take l.placed-index l.parts));
  agents :
      map agent_seen l.tables.agents.items
      ≡ flat_map placed_agents (parts_listed (take l.placed-index l.parts));
}
