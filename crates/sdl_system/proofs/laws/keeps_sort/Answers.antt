use Rattle.sdl_system.proofs.OperationLemmas.{keeps_sort}
use Rattle.sdl_system.proofs.laws.keeps_sort.Goals as goal

pub returns : goal.returns
returns c = keeps_sort
