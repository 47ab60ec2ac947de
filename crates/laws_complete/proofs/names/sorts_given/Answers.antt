use Rattle.laws_complete.proofs.SortLemmas.{sorts-given}
use Rattle.laws_complete.proofs.names.sorts_given.Goals as goal

pub returns : goal.returns
returns c = sorts-given
