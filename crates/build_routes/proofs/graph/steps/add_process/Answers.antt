use Rattle.std.proofs.Common.{◌&&◌, not, ap, ◌∙◌, refl}
use Rattle.build_routes.specs.Steps.{is_implied}
use Rattle.build_routes.proofs.AddLemmas.{adds_either}
use Rattle.build_routes.proofs.LinkLemmas.{link_with, node_if_same, option_if_same}
use Rattle.build_routes.proofs.graph.steps.add_process.Goals as goal

pub returns : goal.returns
returns c =
    adds_either _ _ _ _ _
    (link_with _ _ _ _ _ _ _ c.in_ok-link.ensures (c.node_if-comes.ensures ∙ node_if_same _ _ _ _ c.is_implied-implied.ensures c.on_implied.ensures) refl)
    (link_with _ _ _ _ _ _ _ c.in_ok-link-2.ensures
    (c.option_if-first.ensures ∙ option_if_same _ _ _ _
    (c.but_not.ensures ∙ ap (λ x. x && not c.same_end-is_source.result) c.is_implied-implied.ensures
    ∙ ap (λ x. is_implied c.args.network.now c.args.process.scope && not x) c.same_end-is_source.ensures)
    c.on_first.ensures) refl)
