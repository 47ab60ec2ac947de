use Rattle.build_constants.proofs.BrokenLaws.{listed-values}
use Rattle.build_constants.proofs.laws.listed_is_broken_in_values.Goals as goal

pub returns : goal.returns
returns c = listed-values
