use Rattle.run_record.proofs.LawLemmas.{lists_read_what_is_known}
use Rattle.run_record.proofs.evaluation.laws.lists_read_what_is_known.Goals as goal

pub returns : goal.returns
returns c = lists_read_what_is_known
