use Rattle.std.proofs.Common.{[]}
use Rattle.build_definitions.specs.Rows.{placed_signal_lists, placed_signal_sets, placed_signals}
use Rattle.build_definitions.specs.Views.{placed_value}
use Rattle.build_definitions.proofs.ListLemmas.{behind_all, behind_more}
use Rattle.build_definitions.proofs.groups.SignalTables.of.Goals as goal

pub loop-placed-preserved : goal.loop-placed-preserved
loop-placed-preserved c = record {
  signals =
      behind_more placed_value [] _ _ c.args.parts.now c.loop-placed.placed-index
      c.placed-item.result c.loop-placed-test.true c.placed-item.is placed_signals c.loop-placed.invariant.signals
      c.in_ok-add.ensures.signals;
  lists =
      behind_more placed_value [] _ _ c.args.parts.now c.loop-placed.placed-index
      c.placed-item.result c.loop-placed-test.true c.placed-item.is placed_signal_lists c.loop-placed.invariant.lists
      c.in_ok-add.ensures.lists;
  signal_sets =
      behind_more placed_value [] _ _ c.args.parts.now c.loop-placed.placed-index
      c.placed-item.result c.loop-placed-test.true c.placed-item.is placed_signal_sets
      c.loop-placed.invariant.signal_sets c.in_ok-add.ensures.signal_sets;
}

pub returns-clause-signals : goal.returns-clause-signals
returns-clause-signals c =
    behind_all placed_value [] _ c.args.parts.now c.loop-placed.placed-index placed_signals
    c.loop-placed-test.false c.loop-placed.invariant.signals

pub returns-clause-lists : goal.returns-clause-lists
returns-clause-lists c =
    behind_all placed_value [] _ c.args.parts.now c.loop-placed.placed-index placed_signal_lists
    c.loop-placed-test.false c.loop-placed.invariant.lists

pub returns-clause-signal_sets : goal.returns-clause-signal_sets
returns-clause-signal_sets c =
    behind_all placed_value [] _ c.args.parts.now c.loop-placed.placed-index placed_signal_sets
    c.loop-placed-test.false c.loop-placed.invariant.signal_sets
