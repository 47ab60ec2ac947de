-- Counts by time keep the order.
use Rattle.settle_checks.proofs.PassLemmas.{covered_are_in_order as law}
use Rattle.settle_checks.proofs.summing.laws.covered_are_in_order.Goals as goal

pub returns : goal.returns
returns c = law c.counts_keep_order.ensures
