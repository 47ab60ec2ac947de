-- No fault: a lemma says so.
use Rattle.sdl_script.proofs.Faults.{no_fault}
use Rattle.sdl_script.proofs.laws.no_fault.Goals as goal

pub returns : goal.returns
returns c = no_fault
