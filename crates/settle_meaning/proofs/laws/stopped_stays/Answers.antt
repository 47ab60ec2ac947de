-- A stopped port stays: a lemma says so.
use Rattle.settle_meaning.proofs.Drawn.{stopped_stays as law}
use Rattle.settle_meaning.proofs.laws.stopped_stays.Goals as goal

pub returns : goal.returns
returns c = law
