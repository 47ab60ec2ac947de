use Rattle.build_statements.proofs.AnswerLaws.{answer-listed}
use Rattle.build_statements.proofs.nodes.laws.broken_is_listed_answer.Goals as goal

pub returns : goal.returns
returns c = answer-listed
