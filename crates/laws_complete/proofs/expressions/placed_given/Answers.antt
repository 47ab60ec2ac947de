use Rattle.laws_complete.proofs.ExpressionLemmas.{placed-given}
use Rattle.laws_complete.proofs.expressions.placed_given.Goals as goal

pub returns : goal.returns
returns c context scope place expression complete = placed-given context scope complete place expression
