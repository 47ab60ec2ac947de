use Rattle.build_statements.proofs.AnswerLaws.{listed-answer}
use Rattle.build_statements.proofs.nodes.laws.listed_is_broken_answer.Goals as goal

pub returns : goal.returns
returns c = listed-answer
