-- Nothing is drawn late: a lemma says so.
use Rattle.settle_checks.proofs.DrawLemmas.{late_is_nothing as law}
use Rattle.settle_checks.proofs.gathered.laws.late_is_nothing.Goals as goal

pub returns : goal.returns
returns c = law
