use Rattle.build_constants.proofs.SynonymsBrokenLaws.{broken-listed}
use Rattle.build_constants.proofs.synonyms.laws.broken_is_listed.Goals as goal

pub returns : goal.returns
returns c = broken-listed
