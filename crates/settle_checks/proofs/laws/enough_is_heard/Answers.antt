-- Enough was heard: a lemma says so.
use Rattle.settle_checks.proofs.HeardLemmas.{enough_is_heard as law}
use Rattle.settle_checks.proofs.laws.enough_is_heard.Goals as goal

pub returns : goal.returns
returns c = law
