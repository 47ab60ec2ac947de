-- A lemma says so.
use Rattle.settle_checks.proofs.PassLemmas.{sends_are_in_turn as law}
use Rattle.settle_checks.proofs.summing.laws.sends_are_in_turn.Goals as goal

pub returns : goal.returns
returns c = law
