use Rattle.std.proofs.Common.{false, get_or, subst}
use Rattle.std.proofs.lemmas.Option.{slice_get-get_or}
use Rattle.build_routes.specs.Graph.{Adds}
use Rattle.build_routes.specs.Rows.{rows_of}
use Rattle.build_routes.specs.Steps.{PathSteps}
use Rattle.build_routes.specs.declared.network.joined.ChannelPath.{ChannelPath}
use Rattle.build_routes.specs.declared.network.joined.End.TheVariants as at
use Rattle.build_routes.specs.declared.network.joined.Scope.TheVariants as its
use Rattle.build_routes.proofs.EachLemmas.{adds_all, adds_each}
use Rattle.build_routes.proofs.graph.steps.add_paths.Goals as goal

pub loop-number-preserved : goal.loop-number-preserved
loop-number-preserved c =
    let n = c.loop-number.number in
    let none : ChannelPath = record { scope = its.System; from = at.Env; to = at.Env; signals = record { 0 = 0 } } in
    let item = get_or c.args.paths.now n none in
    let named = c.args.named.now in
    adds_each c.args.paths.now n item (λ n path. PathSteps c.args.source (get_or named n false) n path)
    (rows_of c.args.graph.now) (rows_of c.loop-number.graph) (rows_of c.add_path.new.graph)
    (slice_get-get_or c.args.paths.now n none c.loop-number-test.true)
    c.loop-number.invariant
    (subst (λ k. Adds (PathSteps c.args.source (get_or named n false) k item) (rows_of c.loop-number.graph) (rows_of c.add_path.new.graph)) c.in_ok-counted.ensures.same
    (subst (λ flag. Adds (PathSteps c.args.source flag c.in_ok-counted.field-0 item) (rows_of c.loop-number.graph) (rows_of c.add_path.new.graph)) c.flag_at.ensures
    c.in_ok-add_path.ensures))

pub returns : goal.returns
returns c =
    adds_all c.args.paths.now c.loop-number.number (λ n path. PathSteps c.args.source (get_or c.args.named.now n false) n path)
    (rows_of c.args.graph.now) (rows_of c.loop-number.graph) c.loop-number-test.false c.loop-number.invariant
