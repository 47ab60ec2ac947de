use Rattle.build_routes.specs.Each.{ForSomeBelow}
use Rattle.build_routes.specs.Graph.{Adds}
use Rattle.build_routes.specs.Rows.{rows_of}
use Rattle.build_routes.specs.Steps.{ProcessSteps}
use Rattle.build_routes.proofs.graph.steps.add_processes.Given as goal

abbrev pub invariant-loop-number : goal.invariant-loop-number
invariant-loop-number l = Adds (λ from step. ForSomeBelow l.processes l.number (λ q process. ProcessSteps l.network l.source q process from step))
    (rows_of l.fn.graph) (rows_of l.graph)
