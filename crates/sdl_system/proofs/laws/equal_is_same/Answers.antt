use Rattle.sdl_system.proofs.OperationLemmas.{equal_is_same}
use Rattle.sdl_system.proofs.laws.equal_is_same.Goals as goal

pub returns : goal.returns
returns c = equal_is_same
