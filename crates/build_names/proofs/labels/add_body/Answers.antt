use Rattle.build_names.proofs.LabelLemmas.{behind_all, behind_more}
use Rattle.build_names.specs.Labels.{body_labels}
use Rattle.sdl_tree.specs.Views.{body_part_value}
use Rattle.build_names.proofs.labels.add_body.Goals as goal

pub loop-part-preserved : goal.loop-part-preserved
loop-part-preserved c =
    behind_more body_labels body_part_value _ _ _ c.args.parts.now c.loop-part.part-index c.part-item.result
    c.loop-part-test.true c.part-item.is c.loop-part.invariant c.in_ok-add_body_part.ensures

pub returns : goal.returns
returns c =
    behind_all body_labels body_part_value _ _ c.args.parts.now c.loop-part.part-index c.loop-part-test.false
    c.loop-part.invariant
