use Rattle.build_constants.proofs.UnvaluedLaws.{unvalued-noted}
use Rattle.build_constants.proofs.synonyms.laws.unvalued_is_noted.Goals as goal

pub returns : goal.returns
returns c = unvalued-noted
