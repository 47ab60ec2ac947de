use Rattle.sdl_tree.proofs.SpelledLemmas.{words_are_spelled}
use Rattle.sdl_tree.proofs.laws.words_are_spelled.Goals as goal

pub returns : goal.returns
returns c = words_are_spelled
