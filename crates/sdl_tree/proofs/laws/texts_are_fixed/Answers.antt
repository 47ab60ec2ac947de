use Rattle.sdl_tree.proofs.WordLemmas.{texts_are_fixed}
use Rattle.sdl_tree.proofs.laws.texts_are_fixed.Goals as goal

pub returns : goal.returns
returns c = texts_are_fixed
