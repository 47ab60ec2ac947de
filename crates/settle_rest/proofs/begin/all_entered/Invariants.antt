use Rattle.settle_rest.specs.Woken.{AreNumbers, AreUpTo}
use Rattle.settle_rest.proofs.begin.all_entered.Given as goal

abbrev pub invariant-loop-number : goal.invariant-loop-number
invariant-loop-number l = record {
  numbers : AreNumbers l.all.ready;
  greatest : AreUpTo l.all.greatest l.all.ready;
}
