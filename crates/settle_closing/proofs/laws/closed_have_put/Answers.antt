-- What its senders have put is the end of what its record sends: a lemma says so.
use Rattle.settle_closing.proofs.ClosedLemmas.{closed_have_put as law}
use Rattle.settle_closing.proofs.laws.closed_have_put.Goals as goal

pub returns : goal.returns
returns c = law
