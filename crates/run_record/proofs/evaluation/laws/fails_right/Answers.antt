use Rattle.run_record.proofs.LawLemmas.{fails_right}
use Rattle.run_record.proofs.evaluation.laws.fails_right.Goals as goal

pub returns : goal.returns
returns c = fails_right
