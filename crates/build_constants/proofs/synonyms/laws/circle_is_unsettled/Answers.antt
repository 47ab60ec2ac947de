use Rattle.build_constants.proofs.SynonymsBrokenLaws.{circle-unsettled}
use Rattle.build_constants.proofs.synonyms.laws.circle_is_unsettled.Goals as goal

pub returns : goal.returns
returns c = circle-unsettled
