use Rattle.laws_complete.proofs.SeenLemmas.{durations-given}
use Rattle.laws_complete.proofs.names.durations_given.Goals as goal

pub returns : goal.returns
returns c = durations-given
