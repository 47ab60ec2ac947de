use Rattle.view_coverage.proofs.AnswerLemmas.{answers-step}
use Rattle.view_coverage.specs.Sections.{rows_listed}
use Rattle.view_coverage.proofs.covered.item_list.add_known.Goals as goal

pub loop-goal-preserved : goal.loop-goal-preserved
loop-goal-preserved c =
    answers-step c.args.process c.args.counts.now c.loop-goal.next c.in_ok-next.next c.args.goals.now
    c.loop-goal.goal-index c.goal-item.result c.count_at.result (rows_listed c.loop-goal.items.items)
    (rows_listed c.add_answer_of.new.items.items) _ c.loop-goal-test.true c.goal-item.is c.in_ok-next.ensures.same
    c.count_at.ensures c.in_ok-add_answer_of.ensures c.loop-goal.invariant
