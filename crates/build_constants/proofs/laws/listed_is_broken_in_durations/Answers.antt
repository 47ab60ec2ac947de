use Rattle.build_constants.proofs.BrokenLaws.{listed-durations}
use Rattle.build_constants.proofs.laws.listed_is_broken_in_durations.Goals as goal

pub returns : goal.returns
returns c = listed-durations
