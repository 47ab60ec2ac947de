use Rattle.build_constants.specs.Known.{IsKnown}
use Rattle.build_constants.proofs.synonyms.known.settle_each.Given as goal

abbrev pub invariant-loop-number : goal.invariant-loop-number
invariant-loop-number l = IsKnown l.synonyms l.known.constants.items l.known.settled.items
