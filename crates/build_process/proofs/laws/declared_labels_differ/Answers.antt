use Rattle.build_process.proofs.DeclaredLemmas.{declared-differ}
use Rattle.build_process.proofs.laws.declared_labels_differ.Goals as goal

pub returns : goal.returns
returns c = declared-differ
