use Rattle.build_constants.proofs.KnownLemmas.{settled-once}
use Rattle.build_constants.proofs.synonyms.laws.settled_once.Goals as goal

pub returns : goal.returns
returns c = settled-once
