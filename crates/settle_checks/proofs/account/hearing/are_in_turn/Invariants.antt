use Rattle.std.proofs.Common.{drop}
use Rattle.settle_meaning.specs.Order.{times_heard}
use Rattle.settle_meaning.specs.OrderLaws.{AreTimesFrom}
use Rattle.settle_checks.proofs.account.hearing.are_in_turn.Given as goal

abbrev pub invariant-loop-line : goal.invariant-loop-line
invariant-loop-line l =
    AreTimesFrom l.last (times_heard (drop l.line-index l.lines)) → AreTimesFrom 0 (times_heard l.lines)
