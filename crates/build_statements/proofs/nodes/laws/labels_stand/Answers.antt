use Rattle.build_statements.proofs.MadeLemmas.{labels-stand}
use Rattle.build_statements.proofs.nodes.laws.labels_stand.Goals as goal

pub returns : goal.returns
returns c = labels-stand
