-- Who rests rests for good: a lemma says so.
use Rattle.settle_meaning.proofs.Runs.{rests_are_for_good as law}
use Rattle.settle_meaning.proofs.laws.rests_are_for_good.Goals as goal

pub returns : goal.returns
returns c = law
