use Rattle.std.proofs.Common.{◌∙◌, ◌++◌, ap}
use Rattle.build_flow.specs.Listed.{beginning_value}
use Rattle.build_flow.specs.Mentions.{beginning_mentions}
use Rattle.build_flow.proofs.StepLemmas.{taken-more}
use Rattle.build_flow.proofs.mentions.mentions_in.Goals as goal

pub loop-beginning-preserved : goal.loop-beginning-preserved
loop-beginning-preserved c =
    c.in_ok-add_beginning.ensures
    ∙ ap (λ list. list ++ beginning_mentions (beginning_value c.beginning-item.result)) c.loop-beginning.invariant
    ∙ taken-more beginning_mentions beginning_value c.args.beginnings.now c.loop-beginning.beginning-index
    c.beginning-item.result c.loop-beginning-test.true c.beginning-item.is
