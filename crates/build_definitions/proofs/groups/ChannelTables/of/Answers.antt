use Rattle.std.proofs.Common.{[]}
use Rattle.build_definitions.specs.Rows.{placed_channels, placed_connections}
use Rattle.build_definitions.specs.Views.{placed_value}
use Rattle.build_definitions.proofs.ListLemmas.{behind_all, behind_more}
use Rattle.build_definitions.proofs.groups.ChannelTables.of.Goals as goal

pub loop-placed-preserved : goal.loop-placed-preserved
loop-placed-preserved c = record {
  channels =
      behind_more placed_value [] _ _ c.args.parts.now c.loop-placed.placed-index
      c.placed-item.result c.loop-placed-test.true c.placed-item.is placed_channels c.loop-placed.invariant.channels
      c.in_ok-add.ensures.channels;
  connections =
      behind_more placed_value [] _ _ c.args.parts.now c.loop-placed.placed-index
      c.placed-item.result c.loop-placed-test.true c.placed-item.is placed_connections
      c.loop-placed.invariant.connections c.in_ok-add.ensures.connections;
}

pub returns-clause-channels : goal.returns-clause-channels
returns-clause-channels c =
    behind_all placed_value [] _ c.args.parts.now c.loop-placed.placed-index placed_channels
    c.loop-placed-test.false c.loop-placed.invariant.channels

pub returns-clause-connections : goal.returns-clause-connections
returns-clause-connections c =
    behind_all placed_value [] _ c.args.parts.now c.loop-placed.placed-index placed_connections
    c.loop-placed-test.false c.loop-placed.invariant.connections
