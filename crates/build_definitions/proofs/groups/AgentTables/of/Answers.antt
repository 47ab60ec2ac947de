use Rattle.std.proofs.Common.{[]}
use Rattle.build_definitions.specs.Rows.{placed_agents, placed_blocks, placed_processes}
use Rattle.build_definitions.specs.Views.{placed_value}
use Rattle.build_definitions.proofs.ListLemmas.{behind_all, behind_more}
use Rattle.build_definitions.proofs.groups.AgentTables.of.Goals as goal

pub loop-placed-preserved : goal.loop-placed-preserved
loop-placed-preserved c = record {
  blocks =
      behind_more placed_value [] _ _ c.args.parts.now c.loop-placed.placed-index
      c.placed-item.result c.loop-placed-test.true c.placed-item.is placed_blocks c.loop-placed.invariant.blocks
      c.in_ok-add.ensures.blocks;
  processes =
      behind_more placed_value [] _ _ c.args.parts.now c.loop-placed.placed-index
      c.placed-item.result c.loop-placed-test.true c.placed-item.is placed_processes c.loop-placed.invariant.processes
      c.in_ok-add.ensures.processes;
  agents =
      behind_more placed_value [] _ _ c.args.parts.now c.loop-placed.placed-index
      c.placed-item.result c.loop-placed-test.true c.placed-item.is placed_agents c.loop-placed.invariant.agents
      c.in_ok-add.ensures.agents;
}

pub returns-clause-blocks : goal.returns-clause-blocks
returns-clause-blocks c =
    behind_all placed_value [] _ c.args.parts.now c.loop-placed.placed-index placed_blocks
    c.loop-placed-test.false c.loop-placed.invariant.blocks

pub returns-clause-processes : goal.returns-clause-processes
returns-clause-processes c =
    behind_all placed_value [] _ c.args.parts.now c.loop-placed.placed-index placed_processes
    c.loop-placed-test.false c.loop-placed.invariant.processes

pub returns-clause-agents : goal.returns-clause-agents
returns-clause-agents c =
    behind_all placed_value [] _ c.args.parts.now c.loop-placed.placed-index placed_agents
    c.loop-placed-test.false c.loop-placed.invariant.agents
