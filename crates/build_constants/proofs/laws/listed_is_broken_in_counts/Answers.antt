use Rattle.build_constants.proofs.BrokenLaws.{listed-counts}
use Rattle.build_constants.proofs.laws.listed_is_broken_in_counts.Goals as goal

pub returns : goal.returns
returns c = listed-counts
