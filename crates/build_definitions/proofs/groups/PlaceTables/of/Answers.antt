use Rattle.std.proofs.Common.{[]}
use Rattle.build_definitions.specs.Rows.{placed_labels, placed_states}
use Rattle.build_definitions.specs.Views.{placed_value}
use Rattle.build_definitions.proofs.ListLemmas.{behind_all, behind_more}
use Rattle.build_definitions.proofs.groups.PlaceTables.of.Goals as goal

pub loop-placed-preserved : goal.loop-placed-preserved
loop-placed-preserved c = record {
  labels =
      behind_more placed_value [] _ _ c.args.parts.now c.loop-placed.placed-index
      c.placed-item.result c.loop-placed-test.true c.placed-item.is placed_labels c.loop-placed.invariant.labels
      c.in_ok-add.ensures.labels;
  states =
      behind_more placed_value [] _ _ c.args.parts.now c.loop-placed.placed-index
      c.placed-item.result c.loop-placed-test.true c.placed-item.is placed_states c.loop-placed.invariant.states
      c.in_ok-add.ensures.states;
}

pub returns-clause-labels : goal.returns-clause-labels
returns-clause-labels c =
    behind_all placed_value [] _ c.args.parts.now c.loop-placed.placed-index placed_labels
    c.loop-placed-test.false c.loop-placed.invariant.labels

pub returns-clause-states : goal.returns-clause-states
returns-clause-states c =
    behind_all placed_value [] _ c.args.parts.now c.loop-placed.placed-index placed_states
    c.loop-placed-test.false c.loop-placed.invariant.states
