-- Two steps that begin alike are alike: a lemma says so.
use Rattle.laws_one_step.proofs.Steps.{steps_alike}
use Rattle.laws_one_step.proofs.laws.steps_alike.Goals as goal

pub returns : goal.returns
returns c = steps_alike
