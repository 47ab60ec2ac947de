use Rattle.sdl_tree.proofs.ErasedLemmas.{erased_once}
use Rattle.sdl_tree.proofs.laws.erased_once.Goals as goal

pub returns : goal.returns
returns c = erased_once
