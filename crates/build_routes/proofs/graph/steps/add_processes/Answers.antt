use Rattle.std.proofs.Common.{get_or, subst}
use Rattle.std.proofs.lemmas.Option.{slice_get-get_or}
use Rattle.build_routes.specs.Graph.{Adds}
use Rattle.build_routes.specs.Rows.{rows_of}
use Rattle.build_routes.specs.Steps.{ProcessSteps}
use Rattle.build_routes.specs.declared.network.joined.Process.{Process}
use Rattle.build_routes.specs.declared.network.joined.Scope.TheVariants as its
use Rattle.build_routes.proofs.EachLemmas.{adds_all, adds_each}
use Rattle.build_routes.proofs.graph.steps.add_processes.Goals as goal

pub loop-number-preserved : goal.loop-number-preserved
loop-number-preserved c =
    let n = c.loop-number.number in
    let none : Process = record { scope = its.System; named = record { 0 = 0 }; timers = record { 0 = 0 } } in
    let item = get_or c.args.processes.now n none in
    adds_each c.args.processes.now n item (λ q process. ProcessSteps c.args.network.now c.args.source q process)
    (rows_of c.args.graph.now) (rows_of c.loop-number.graph) (rows_of c.add_process.new.graph)
    (slice_get-get_or c.args.processes.now n none c.loop-number-test.true)
    c.loop-number.invariant
    (subst (λ k. Adds (ProcessSteps c.args.network.now c.args.source k item) (rows_of c.loop-number.graph) (rows_of c.add_process.new.graph))
    c.in_ok-counted.ensures.same c.in_ok-add_process.ensures)

pub returns : goal.returns
returns c =
    adds_all c.args.processes.now c.loop-number.number (λ q process. ProcessSteps c.args.network.now c.args.source q process)
    (rows_of c.args.graph.now) (rows_of c.loop-number.graph) c.loop-number-test.false c.loop-number.invariant
