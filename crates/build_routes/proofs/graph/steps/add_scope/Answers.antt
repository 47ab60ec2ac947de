use Rattle.std.proofs.Common.{◌&&◌, not, Some, ap, ◌∙◌, refl}
use Rattle.build_routes.proofs.AddLemmas.{adds_either}
use Rattle.build_routes.proofs.LinkLemmas.{link_with, node_if_same}
use Rattle.build_routes.proofs.graph.steps.add_scope.Goals as goal

pub returns : goal.returns
returns c =
    adds_either _ _ _ _ _
    (link_with _ _ _ _ _ _ _ c.in_ok-link.ensures (c.node_if-start.ensures ∙ node_if_same _ _ _ _ c.is_implied.ensures refl) (ap (λ x. Some x) c.first_of.ensures))
    (adds_either _ _ _ _ _
    (link_with _ _ _ _ _ _ _ c.in_ok-link-2.ensures c.node_if-others.ensures refl)
    (link_with _ _ _ _ _ _ _ c.in_ok-link-3.ensures
    (c.node_if-first.ensures ∙ node_if_same _ _ _ _ (c.but_not.ensures ∙ ap (λ x. c.args.network.now.is_implied && not x) c.same_end-is_outside.ensures) refl) refl))
