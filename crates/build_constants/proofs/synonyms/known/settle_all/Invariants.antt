use Rattle.build_constants.specs.Known.{IsKnown, count_open}
use Rattle.build_constants.proofs.synonyms.known.settle_all.Given as goal

abbrev pub invariant-rounds : goal.invariant-rounds
invariant-rounds l = IsKnown l.synonyms l.known.constants.items l.known.settled.items

abbrev pub decreases-rounds : goal.decreases-rounds
decreases-rounds l = count_open l.known.settled.items
