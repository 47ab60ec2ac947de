-- The law of counts, of all places.
use Rattle.settle_checks.proofs.AccountPutLemmas.{counted_have_put as law}
use Rattle.settle_checks.proofs.account.laws.counted_have_put.Goals as goal

pub returns : goal.returns
returns c = law c.all_is_put.ensures c.enough_is_put.ensures c.enough_is_heard.ensures
