use Rattle.std.proofs.Common.{◌∙◌, ap, is_some}
use Rattle.sdl_tree.specs.Views.{transition_value}
use Rattle.build_flow.proofs.PassingLemmas.{named-passed}
use Rattle.build_flow.proofs.ends.passes.Goals as goal

pub returns : goal.returns
returns c =
    c.is_some.ensures
    ∙ ap is_some c.in_ok-turn.ensures.turn
    ∙ named-passed c.args.joins.now (transition_value c.args.transition.now)
