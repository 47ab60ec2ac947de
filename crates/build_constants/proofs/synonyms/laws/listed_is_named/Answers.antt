use Rattle.build_constants.proofs.SynonymsBrokenLaws.{listed-named}
use Rattle.build_constants.proofs.synonyms.laws.listed_is_named.Goals as goal

pub returns : goal.returns
returns c = listed-named
