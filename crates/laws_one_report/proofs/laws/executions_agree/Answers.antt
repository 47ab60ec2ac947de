-- Two executions agree: a lemma says so.
use Rattle.laws_one_report.proofs.Executions.{executions_agree}
use Rattle.laws_one_report.proofs.laws.executions_agree.Goals as goal

pub returns : goal.returns
returns c = executions_agree
