use Rattle.laws_complete.proofs.LabelLemmas.{states-given}
use Rattle.laws_complete.proofs.names.states_given.Goals as goal

pub returns : goal.returns
returns c = states-given
