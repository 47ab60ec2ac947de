-- What is drawn is heard: a lemma says so.
use Rattle.settle_meaning.proofs.Runs.{runs_hear_what_is_drawn as law}
use Rattle.settle_meaning.proofs.laws.runs_hear_what_is_drawn.Goals as goal

pub returns : goal.returns
returns c = law
