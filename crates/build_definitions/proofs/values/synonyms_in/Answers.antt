use Rattle.std.proofs.Common.{[]}
use Rattle.build_definitions.specs.Rows.{placed_synonyms}
use Rattle.build_definitions.specs.Views.{placed_value}
use Rattle.build_definitions.proofs.ListLemmas.{behind_all, behind_more}
use Rattle.build_definitions.proofs.values.synonyms_in.Goals as goal

pub loop-placed-preserved : goal.loop-placed-preserved
loop-placed-preserved c =
    behind_more placed_value [] _ _ c.args.parts.now c.loop-placed.placed-index
    c.placed-item.result c.loop-placed-test.true c.placed-item.is placed_synonyms c.loop-placed.invariant
    c.in_ok-add_synonyms.ensures

pub returns : goal.returns
returns c =
    behind_all placed_value [] _ c.args.parts.now c.loop-placed.placed-index placed_synonyms
    c.loop-placed-test.false c.loop-placed.invariant
