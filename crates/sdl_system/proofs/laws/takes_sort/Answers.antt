use Rattle.sdl_system.proofs.OperationLemmas.{takes_sort}
use Rattle.sdl_system.proofs.laws.takes_sort.Goals as goal

pub returns : goal.returns
returns c = takes_sort
