use Rattle.sdl_system.proofs.OperationLemmas.{divides_all}
use Rattle.sdl_system.proofs.laws.divides_all.Goals as goal

pub returns : goal.returns
returns c = divides_all
