use Rattle.build_tables.proofs.EnablingLemmas.{are-enabling}
use Rattle.build_tables.proofs.laws.states_are_enabling.Goals as goal

pub returns : goal.returns
returns c = are-enabling
