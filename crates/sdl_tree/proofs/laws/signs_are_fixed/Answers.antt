use Rattle.sdl_tree.proofs.WordLemmas.{signs_are_fixed}
use Rattle.sdl_tree.proofs.laws.signs_are_fixed.Goals as goal

pub returns : goal.returns
returns c = signs_are_fixed
