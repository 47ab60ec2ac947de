-- Expiries have sets: a lemma says so.
use Rattle.settle_meaning.proofs.Expiries.{expiries_have_sets as law}
use Rattle.settle_meaning.proofs.laws.expiries_have_sets.Goals as goal

pub returns : goal.returns
returns c = law
