use Rattle.laws_complete.proofs.RangeLemmas.{signals-within}
use Rattle.laws_complete.proofs.ranges.signals_within.Goals as goal

pub returns : goal.returns
returns c = signals-within
