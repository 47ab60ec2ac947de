use Rattle.build_constants.proofs.SynonymsBrokenLaws.{named-listed}
use Rattle.build_constants.proofs.synonyms.laws.named_is_listed.Goals as goal

pub returns : goal.returns
returns c = named-listed
