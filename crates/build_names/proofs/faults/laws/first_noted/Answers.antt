use Rattle.build_names.proofs.FaultLemmas.{first_noted}
use Rattle.build_names.proofs.faults.laws.first_noted.Goals as goal

pub returns : goal.returns
returns c = first_noted
