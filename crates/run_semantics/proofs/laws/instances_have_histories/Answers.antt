-- All that an instance did is on a legal history: a lemma says so.
use Rattle.run_semantics.proofs.Legal.{instances_have_histories}
use Rattle.run_semantics.proofs.laws.instances_have_histories.Goals as goal

pub returns : goal.returns
returns c d who events place s owner run = instances_have_histories d who events place s owner run
