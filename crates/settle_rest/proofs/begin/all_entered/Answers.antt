use Rattle.settle_rest.proofs.begin.all_entered.Goals as goal

pub loop-number-preserved : goal.loop-number-preserved
loop-number-preserved c = record {
  numbers = c.add.ensures.numbers c.loop-number.invariant.numbers;
  greatest = c.add.ensures.greatest c.loop-number.invariant.greatest;
}
