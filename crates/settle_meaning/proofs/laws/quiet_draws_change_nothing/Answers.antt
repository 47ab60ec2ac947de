-- A lemma says so.
use Rattle.settle_meaning.proofs.Quiet.{quiet_draws_change_nothing as law}
use Rattle.settle_meaning.proofs.laws.quiet_draws_change_nothing.Goals as goal

pub returns : goal.returns
returns c = law
