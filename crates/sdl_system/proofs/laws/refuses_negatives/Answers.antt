use Rattle.sdl_system.proofs.OperationLemmas.{refuses_negatives}
use Rattle.sdl_system.proofs.laws.refuses_negatives.Goals as goal

pub returns : goal.returns
returns c = refuses_negatives
