use Rattle.std.proofs.Common.{◌∙◌, ◌++◌, ap}
use Rattle.build_flow.specs.Listed.{beginning_value, turns_of}
use Rattle.build_flow.specs.Turns.{beginning_found}
use Rattle.build_flow.proofs.StepLemmas.{taken-more}
use Rattle.build_flow.proofs.rounds.found_from.Goals as goal

pub loop-beginning-preserved : goal.loop-beginning-preserved
loop-beginning-preserved c =
    let turns = turns_of c.args.entries in
    c.in_ok-add_beginning.ensures
    ∙ ap (λ list. list ++ beginning_found turns (beginning_value c.beginning-item.result)) c.loop-beginning.invariant
    ∙ taken-more (beginning_found turns) beginning_value c.args.beginnings.now c.loop-beginning.beginning-index
    c.beginning-item.result c.loop-beginning-test.true c.beginning-item.is
