use Rattle.build_names.proofs.FaultLemmas.{none_noted}
use Rattle.build_names.proofs.faults.laws.none_noted.Goals as goal

pub returns : goal.returns
returns c = none_noted
