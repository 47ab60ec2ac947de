use Rattle.build_constants.proofs.SynonymsBrokenLaws.{listed-broken}
use Rattle.build_constants.proofs.synonyms.laws.listed_is_broken.Goals as goal

pub returns : goal.returns
returns c = listed-broken
