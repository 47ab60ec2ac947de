use Rattle.std.proofs.Common.{◌∙◌, ap, unwrap_or}
use Rattle.std.specs.List.{count_by}
use Rattle.view_coverage.specs.Stimuli.{is_continuous_of}
use Rattle.view_coverage.proofs.goals.goal_list.GoalList.count.Goals as goal

pub returns : goal.returns
returns c =
    c.unwrap_or.ensures ∙ ap (λ found. unwrap_or found 0) (c.copied.ensures ∙ c.get.ensures.value)
    ∙ c.self.invariant c.args.state
    ∙ ap (count_by (is_continuous_of c.args.state)) c.self.view_is
