use Rattle.std.proofs.Common.{get_or, arith}
use Rattle.std.proofs.lemmas.Option.{slice_get_within, slice_get-get_or}
use Rattle.build_routes.specs.Rows.{rows_of}
use Rattle.build_routes.specs.Steps.{AtPath}
use Rattle.build_routes.specs.declared.network.joined.ChannelPath.{ChannelPath}
use Rattle.build_routes.specs.declared.network.joined.End.TheVariants as at
use Rattle.build_routes.specs.declared.network.joined.Scope.TheVariants as its
use Rattle.build_routes.proofs.AddLemmas.{adds_nothing}
use Rattle.build_routes.proofs.LinkLemmas.{at_path}
use Rattle.build_routes.proofs.graph.steps.add_at.Goals as goal

pub returns-in_ok-add_joint : goal.returns-in_ok-add_joint
returns-in_ok-add_joint c =
    let none : ChannelPath = record { scope = its.System; from = at.Env; to = at.Env; signals = record { 0 = 0 } } in
    at_path c.args.paths.now c.args.side c.args.joint.connect c.args.joint.block c.args.id (get_or c.args.paths.now c.args.id.0 none)
    (rows_of c.args.graph.now) (rows_of c.add_joint.new.graph)
    (slice_get-get_or c.args.paths.now c.args.id.0 none c.if-number-paths.true) c.in_ok-add_joint.ensures

pub returns-else-number-paths : goal.returns-else-number-paths
returns-else-number-paths c =
    adds_nothing (AtPath c.args.paths.now c.args.side c.args.joint.connect c.args.joint.block c.args.id) (rows_of c.args.graph.now)
    (λ n step at. absurd (omega (arith, c.if-number-paths.false, slice_get_within c.args.paths.now c.args.id.0 at.0 at.1)))
