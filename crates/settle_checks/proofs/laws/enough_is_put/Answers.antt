-- Enough was put: a lemma says so.
use Rattle.settle_checks.proofs.TallyLemmas.{enough_is_put as law}
use Rattle.settle_checks.proofs.laws.enough_is_put.Goals as goal

pub returns : goal.returns
returns c = law
