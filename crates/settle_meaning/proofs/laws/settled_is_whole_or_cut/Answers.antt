-- What is settled is whole or cut: a lemma says so.
use Rattle.settle_meaning.proofs.Reports.{settled_is_whole_or_cut as law}
use Rattle.settle_meaning.proofs.laws.settled_is_whole_or_cut.Goals as goal

pub returns : goal.returns
returns c = law
