use Rattle.std.proofs.Common.{◌∙◌, ◌++◌, ap, flat_map, map, take}
use Rattle.sdl_tree.specs.Views.{body_part_value}
use Rattle.build_flow.specs.Beginnings.{part_beginnings}
use Rattle.build_flow.specs.Listed.{beginnings_listed}
use Rattle.build_flow.proofs.StepLemmas.{taken-more}
use Rattle.build_flow.proofs.TreeLemmas.{then}
use Rattle.build_flow.proofs.beginnings.add_parts.Goals as goal

pub loop-part-preserved : goal.loop-part-preserved
loop-part-preserved c =
    let before = beginnings_listed c.args.list.now.items in
    let i = c.loop-part.part-index in
    let part = c.part-item.result in
    then before (beginnings_listed c.loop-part.list.items) (beginnings_listed c.add_part.new.list.items)
    (flat_map part_beginnings (map body_part_value (take i c.args.body.now))) (part_beginnings (body_part_value part))
    c.loop-part.invariant c.in_ok-add_part.ensures
    ∙ ap (λ list. before ++ list)
    (taken-more part_beginnings body_part_value c.args.body.now i part c.loop-part-test.true c.part-item.is)
