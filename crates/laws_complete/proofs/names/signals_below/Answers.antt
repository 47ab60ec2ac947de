use Rattle.laws_complete.proofs.SeenLemmas.{signals-below}
use Rattle.laws_complete.proofs.names.signals_below.Goals as goal

pub returns : goal.returns
returns c = signals-below
