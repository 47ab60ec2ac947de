use Rattle.run_record.proofs.LawLemmas.{fails_by_itself}
use Rattle.run_record.proofs.evaluation.laws.fails_by_itself.Goals as goal

pub returns : goal.returns
returns c = fails_by_itself
