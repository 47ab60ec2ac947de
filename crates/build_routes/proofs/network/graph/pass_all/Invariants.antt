use Rattle.build_routes.specs.Passing.{AmongFirst, ComesBy, Passes}
use Rattle.build_routes.specs.declared.network.graph.Step.{Step}
use Rattle.build_routes.proofs.network.graph.pass_all.Given as goal

abbrev pub invariant-loop-step : goal.invariant-loop-step
invariant-loop-step l =
    Passes (λ n k. (step : Step) × AmongFirst l.steps l.step-index step × ComesBy l.from l.column step n k)
    l.fn.reached l.reached l.fn.waiting.items l.waiting.items
