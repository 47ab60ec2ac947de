use Rattle.run_record.proofs.LawLemmas.{lists_fail_by_themselves}
use Rattle.run_record.proofs.evaluation.laws.lists_fail_by_themselves.Goals as goal

pub returns : goal.returns
returns c = lists_fail_by_themselves
