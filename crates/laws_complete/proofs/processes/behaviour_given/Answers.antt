use Rattle.laws_complete.proofs.ProcessLemmas.{behaviour-given}
use Rattle.laws_complete.proofs.processes.behaviour_given.Goals as goal

pub returns : goal.returns
returns c = behaviour-given
