use Rattle.std.proofs.Common.{get_or}
use Rattle.std.proofs.lemmas.Option.{slice_get-get_or}
use Rattle.build_routes.specs.Rows.{rows_of}
use Rattle.build_routes.specs.Steps.{AtPath}
use Rattle.build_routes.proofs.EachLemmas.{adds_all, adds_each}
use Rattle.build_routes.proofs.graph.steps.add_side.Goals as goal

pub loop-id-preserved : goal.loop-id-preserved
loop-id-preserved c =
    adds_each c.args.ids.now c.loop-id.id-index (get_or c.args.ids.now c.loop-id.id-index (record { 0 = 0 }))
    (λ j id. AtPath c.args.paths.now c.args.side c.args.joint.connect c.args.joint.block id)
    (rows_of c.args.graph.now) (rows_of c.loop-id.graph) (rows_of c.add_at.new.graph)
    (slice_get-get_or c.args.ids.now c.loop-id.id-index (record { 0 = 0 }) c.loop-id-test.true)
    c.loop-id.invariant c.in_ok-add_at.ensures

pub returns : goal.returns
returns c =
    adds_all c.args.ids.now c.loop-id.id-index (λ j id. AtPath c.args.paths.now c.args.side c.args.joint.connect c.args.joint.block id)
    (rows_of c.args.graph.now) (rows_of c.loop-id.graph) c.loop-id-test.false c.loop-id.invariant
