-- One spelling: a lemma says so.
use Rattle.sdl_script.proofs.Spellings.{one_spelling}
use Rattle.sdl_script.proofs.laws.one_spelling.Goals as goal

pub returns : goal.returns
returns c = one_spelling
