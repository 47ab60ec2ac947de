use Rattle.laws_complete.proofs.ProcessLemmas.{process-given}
use Rattle.laws_complete.proofs.processes.process_given.Goals as goal

pub returns : goal.returns
returns c = process-given
