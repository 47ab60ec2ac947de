use Rattle.laws_complete.proofs.AnswerLemmas.{answer-given}
use Rattle.laws_complete.proofs.expressions.answers_given.Goals as goal

pub returns : goal.returns
returns c scope question answer complete = answer-given scope question complete answer
