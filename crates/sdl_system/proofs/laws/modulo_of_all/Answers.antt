use Rattle.sdl_system.proofs.OperationLemmas.{modulo_of_all}
use Rattle.sdl_system.proofs.laws.modulo_of_all.Goals as goal

pub returns : goal.returns
returns c = modulo_of_all
