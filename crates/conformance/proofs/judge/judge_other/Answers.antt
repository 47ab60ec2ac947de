use Rattle.conformance.proofs.JudgeLaws.{differs_by_answer}
use Rattle.conformance.proofs.judge.judge_other.Goals as goal

pub returns-clause-upholds : goal.returns-clause-upholds
returns-clause-upholds c = differs_by_answer c.args._case.now c.args._answer.now c.args.difference c.requires.kind c.requires.answers
