use Rattle.build_routes.specs.Each.{ForSomeBelow}
use Rattle.build_routes.specs.Graph.{Adds}
use Rattle.build_routes.specs.Rows.{rows_of}
use Rattle.build_routes.specs.Steps.{AtPath}
use Rattle.build_routes.proofs.graph.steps.add_side.Given as goal

abbrev pub invariant-loop-id : goal.invariant-loop-id
invariant-loop-id l = Adds (λ from step. ForSomeBelow l.ids l.id-index (λ j id. AtPath l.paths l.side l.joint.connect l.joint.block id from step))
    (rows_of l.fn.graph) (rows_of l.graph)
