use Rattle.run_record.proofs.LawLemmas.{reads_what_is_known}
use Rattle.run_record.proofs.evaluation.laws.reads_what_is_known.Goals as goal

pub returns : goal.returns
returns c = reads_what_is_known
