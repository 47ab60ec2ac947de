use Rattle.build_constants.proofs.BrokenLaws.{broken-durations}
use Rattle.build_constants.proofs.laws.broken_is_listed_in_durations.Goals as goal

pub returns : goal.returns
returns c = broken-durations
