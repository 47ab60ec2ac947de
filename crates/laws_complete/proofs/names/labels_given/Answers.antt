use Rattle.laws_complete.proofs.LabelLemmas.{labels-given}
use Rattle.laws_complete.proofs.names.labels_given.Goals as goal

pub returns : goal.returns
returns c = labels-given
