-- One meaning: a lemma says so.
use Rattle.sdl_script.proofs.Meanings.{one_meaning}
use Rattle.sdl_script.proofs.laws.one_meaning.Goals as goal

pub returns : goal.returns
returns c = one_meaning
