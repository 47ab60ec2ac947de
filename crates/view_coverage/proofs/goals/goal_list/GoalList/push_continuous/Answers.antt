use Rattle.std.proofs.Common.{◌∙◌, ◌+◌, ◌++◌, ◌∷◌, [], ap, sym, unwrap_or}
use Rattle.std.specs.List.{count_by}
use Rattle.view_coverage.proofs.GoalListLemmas.{counts-continuous}
use Rattle.view_coverage.specs.Stimuli.{is_continuous_of}
use Rattle.view_coverage.proofs.goals.goal_list.GoalList.push_continuous.Goals as goal

pub invariant_of-self-2 : goal.invariant_of-self-2
invariant_of-self-2 c = λ state.
    let goal = c.args.goal in
    let pushed = c.in_ok-push.ensures.items ∙ ap (λ items. items ++ goal ∷ []) c.in_ok-reserve.ensures.items in
    let number = c.in_ok-number.ensures.same ∙ ap (λ n. n + 1) (c.count.ensures
    ∙ ap (count_by (is_continuous_of goal.state)) (sym c.self.view_is)) in
    ap (λ found. unwrap_or found 0) (c.in_ok-insert.ensures.updates.0 state)
    ∙ counts-continuous c.self.inside.continuous.entries c.self.inside.goals.items goal state c.in_ok-number.number
    c.requires number (c.self.invariant state)
    ∙ ap (count_by (is_continuous_of state)) (sym pushed)
