-- Nothing comes late: a lemma says so.
use Rattle.settle_meaning.proofs.Drawn.{late_is_nothing as law}
use Rattle.settle_meaning.proofs.laws.late_is_nothing.Goals as goal

pub returns : goal.returns
returns c = law
