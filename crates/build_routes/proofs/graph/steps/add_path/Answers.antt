use Rattle.std.proofs.Common.{None, Some, refl}
use Rattle.build_routes.specs.declared.graph.node.Node.TheVariants as to
use Rattle.build_routes.proofs.AddLemmas.{adds_either}
use Rattle.build_routes.proofs.LinkLemmas.{link_with}
use Rattle.build_routes.proofs.graph.steps.add_path.Goals as goal

pub returns : goal.returns
returns c =
    adds_either _ _ _ _ _ (link_with _ _ _ _ _ _ _ c.in_ok-link.ensures c.start_of.ensures refl)
    (adds_either _ _ _ _ _ (link_with _ _ _ _ _ _ _ c.in_ok-link-2.ensures c.begin_of.ensures refl)
    (link_with (Some (to.Path c.args.id)) _ (Some (to.Path c.args.id)) _ None _ _ c.in_ok-link-3.ensures refl c.end_of.ensures))
