use Rattle.run_record.proofs.LawLemmas.{fails_left_first}
use Rattle.run_record.proofs.evaluation.laws.fails_left_first.Goals as goal

pub returns : goal.returns
returns c = fails_left_first
