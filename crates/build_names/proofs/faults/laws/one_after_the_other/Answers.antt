use Rattle.build_names.proofs.FaultLemmas.{both_noted}
use Rattle.build_names.proofs.faults.laws.one_after_the_other.Goals as goal

pub returns : goal.returns
returns c = both_noted
