use Rattle.std.proofs.Common.{get_or, false}
use Rattle.build_routes.specs.Each.{ForSomeBelow}
use Rattle.build_routes.specs.Graph.{Adds}
use Rattle.build_routes.specs.Rows.{rows_of}
use Rattle.build_routes.specs.Steps.{PathSteps}
use Rattle.build_routes.proofs.graph.steps.add_paths.Given as goal

abbrev pub invariant-loop-number : goal.invariant-loop-number
invariant-loop-number l = Adds (λ from step. ForSomeBelow l.paths l.number (λ n path. PathSteps l.source (get_or l.named n false) n path from step))
    (rows_of l.fn.graph) (rows_of l.graph)
