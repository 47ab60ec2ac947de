use Rattle.build_constants.proofs.BrokenLaws.{broken-counts}
use Rattle.build_constants.proofs.laws.broken_is_listed_in_counts.Goals as goal

pub returns : goal.returns
returns c = broken-counts
