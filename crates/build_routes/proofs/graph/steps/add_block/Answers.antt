use Rattle.std.proofs.Common.{◌&&◌, not, Some, ap, ◌∙◌, refl}
use Rattle.build_routes.proofs.AddLemmas.{adds_either}
use Rattle.build_routes.proofs.LinkLemmas.{link_with, node_if_same}
use Rattle.build_routes.proofs.graph.steps.add_block.Goals as goal

pub returns : goal.returns
returns c =
    adds_either _ _ _ _ _
    (link_with _ _ _ _ _ _ _ c.in_ok-link.ensures c.node_if-out.ensures (ap (λ x. Some x) c.from_block.ensures))
    (adds_either _ _ _ _ _
    (link_with _ _ _ _ _ _ _ c.in_ok-link-2.ensures c.node_if-others.ensures refl)
    (link_with _ _ _ _ _ _ _ c.in_ok-link-3.ensures
    (c.node_if-first.ensures ∙ node_if_same _ _ _ _ (c.but_not.ensures ∙ ap (λ x. c.args.implied && not x) c.same_scope-is_own.ensures) refl) refl))
