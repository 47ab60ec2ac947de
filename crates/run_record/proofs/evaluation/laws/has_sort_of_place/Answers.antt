use Rattle.run_record.proofs.LawLemmas.{has_sort_of_place}
use Rattle.run_record.proofs.evaluation.laws.has_sort_of_place.Goals as goal

pub returns : goal.returns
returns c = has_sort_of_place c.takes_sort.ensures
