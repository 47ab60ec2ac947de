use Rattle.build_routes.specs.Each.{ForSomeBelow}
use Rattle.build_routes.specs.Graph.{Adds}
use Rattle.build_routes.specs.Rows.{rows_of}
use Rattle.build_routes.specs.Steps.{BlockSteps}
use Rattle.build_routes.proofs.graph.steps.add_blocks.Given as goal

abbrev pub invariant-loop-number : goal.invariant-loop-number
invariant-loop-number l = Adds (λ from step. ForSomeBelow l.network.blocks.items l.number (λ b block. BlockSteps l.network.is_implied l.source b from step))
    (rows_of l.fn.graph) (rows_of l.graph)
