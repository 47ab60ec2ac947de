use Rattle.build_constants.proofs.BrokenLaws.{broken-values}
use Rattle.build_constants.proofs.laws.broken_is_listed_in_values.Goals as goal

pub returns : goal.returns
returns c = broken-values
