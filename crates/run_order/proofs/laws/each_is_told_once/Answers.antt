-- Each event is told once: a lemma says so.
use Rattle.run_order.proofs.Once.{each_is_told_once}
use Rattle.run_order.proofs.laws.each_is_told_once.Goals as goal

pub returns : goal.returns
returns c = each_is_told_once
