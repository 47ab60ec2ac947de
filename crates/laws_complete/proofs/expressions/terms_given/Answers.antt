use Rattle.laws_complete.proofs.ExpressionLemmas.{term-given}
use Rattle.laws_complete.proofs.expressions.terms_given.Goals as goal

pub returns : goal.returns
returns c context scope expression complete = term-given context scope complete expression
