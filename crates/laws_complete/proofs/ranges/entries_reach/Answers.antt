use Rattle.laws_complete.proofs.RangeLemmas.{entries-reach}
use Rattle.laws_complete.proofs.ranges.entries_reach.Goals as goal

pub returns : goal.returns
returns c = entries-reach
