use Rattle.std.proofs.Common.{subst}
use Rattle.build_routes.specs.Graph.{Adds}
use Rattle.build_routes.specs.Rows.{rows_of}
use Rattle.build_routes.specs.Steps.{SideSteps}
use Rattle.build_routes.specs.declared.graph.joint.Side.TheVariants as which
use Rattle.build_routes.proofs.AddLemmas.{adds_either}
use Rattle.build_routes.proofs.graph.steps.add_connect.Goals as goal

pub returns : goal.returns
returns c =
    adds_either _ _ _ _ _
    (subst (λ x. Adds (SideSteps c.args.paths.now which.Outer c.args.number c.args.connect.now.block x) (rows_of c.args.graph.now) (rows_of c.add_side.new.graph)) c.deref.ensures.value c.in_ok-add_side.ensures)
    (subst (λ x. Adds (SideSteps c.args.paths.now which.Inner c.args.number c.args.connect.now.block x) (rows_of c.add_side.new.graph) (rows_of c.add_side-2.new.graph)) c.deref-2.ensures.value c.in_ok-add_side-2.ensures)
