-- What is known of it is known without its senders, too: a lemma says so.
use Rattle.settle_closing.proofs.ClosedLemmas.{left_without_peers as law}
use Rattle.settle_closing.proofs.laws.left_without_peers.Goals as goal

pub returns : goal.returns
returns c = law
