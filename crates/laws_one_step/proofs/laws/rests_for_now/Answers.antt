-- An instance that waits makes no step: a lemma says so.
use Rattle.laws_one_step.proofs.Steps.{rests_for_now}
use Rattle.laws_one_step.proofs.laws.rests_for_now.Goals as goal

pub returns : goal.returns
returns c = rests_for_now
