use Rattle.laws_complete.proofs.ExpressionLemmas.{list-given}
use Rattle.laws_complete.proofs.expressions.lists_given.Goals as goal

pub returns : goal.returns
returns c context scope name places values complete = list-given context scope complete name places values
