use Rattle.laws_complete.proofs.SeenLemmas.{all-valued}
use Rattle.laws_complete.proofs.names.synonyms_valued.Goals as goal

pub returns : goal.returns
returns c = all-valued
