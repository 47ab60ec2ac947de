use Rattle.laws_complete.proofs.AnswerLemmas.{constant-given}
use Rattle.laws_complete.proofs.expressions.constants_given.Goals as goal

pub returns : goal.returns
returns c scope place expression complete = constant-given scope complete place expression
