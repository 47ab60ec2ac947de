use Rattle.std.proofs.Common.{length, subst, refl}
use Rattle.std.proofs.lemmas.Option.{slice_get_read}
use Rattle.build_routes.specs.Graph.{Adds}
use Rattle.build_routes.specs.Rows.{rows_of}
use Rattle.build_routes.specs.Steps.{ConnectSteps}
use Rattle.build_routes.proofs.EachLemmas.{adds_all, adds_each}
use Rattle.build_routes.proofs.graph.steps.add_connects.Goals as goal

pub loop-number-preserved : goal.loop-number-preserved
loop-number-preserved c =
    let n = c.loop-number.number in
    let item = c.index-connects-number.result in
    adds_each c.args.connects.now n item (λ k connect. ConnectSteps c.args.paths.now k connect)
    (rows_of c.args.graph.now) (rows_of c.loop-number.graph) (rows_of c.add_connect.new.graph)
    (slice_get_read c.args.connects.now (length c.args.connects.now) n item refl c.loop-number-test.true c.index-connects-number.is)
    c.loop-number.invariant
    (subst (λ k. Adds (ConnectSteps c.args.paths.now k item) (rows_of c.loop-number.graph) (rows_of c.add_connect.new.graph))
    c.in_ok-counted.ensures.same c.in_ok-add_connect.ensures)

pub returns : goal.returns
returns c =
    adds_all c.args.connects.now c.loop-number.number (λ k connect. ConnectSteps c.args.paths.now k connect)
    (rows_of c.args.graph.now) (rows_of c.loop-number.graph) c.loop-number-test.false c.loop-number.invariant
