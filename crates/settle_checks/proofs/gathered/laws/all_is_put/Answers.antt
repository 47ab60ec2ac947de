-- All is put: a lemma says so.
use Rattle.settle_checks.proofs.GatheredPutLemmas.{all_is_put as law}
use Rattle.settle_checks.proofs.gathered.laws.all_is_put.Goals as goal

pub returns : goal.returns
returns c = law
