-- A lemma says so.
use Rattle.settle_meaning.proofs.Ordered.{counts_keep_order as law}
use Rattle.settle_meaning.proofs.laws.counts_keep_order.Goals as goal

pub returns : goal.returns
returns c = law
