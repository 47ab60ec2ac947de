use Rattle.std.proofs.Common.{None, Some, ◌∙◌, refl}
use Rattle.build_routes.specs.declared.graph.node.Node.TheVariants as to
use Rattle.build_routes.proofs.AddLemmas.{adds_either}
use Rattle.build_routes.proofs.LinkLemmas.{link_with, node_if_same}
use Rattle.build_routes.proofs.graph.steps.add_joint.Goals as goal

pub returns : goal.returns
returns c =
    adds_either _ _ _ _ _
    (link_with (Some (to.Path c.args.id)) _ (Some (to.Path c.args.id)) _ None _ _ c.in_ok-link.ensures refl (c.node_if-comes.ensures ∙ node_if_same _ _ _ _ c.touches.ensures c.arrives.ensures))
    (link_with _ _ _ _ _ _ _ c.in_ok-link-2.ensures (c.node_if-goes.ensures ∙ node_if_same _ _ _ _ c.touches-2.ensures c.departs.ensures) refl)
