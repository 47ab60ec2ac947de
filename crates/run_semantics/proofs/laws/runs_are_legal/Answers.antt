-- A run is on a legal history: a lemma says so.
use Rattle.run_semantics.proofs.Legal.{runs_are_legal}
use Rattle.run_semantics.proofs.laws.runs_are_legal.Goals as goal

pub returns : goal.returns
returns c d who from to s t q r deeds history runs = runs_are_legal d who from to s t q r deeds history runs
