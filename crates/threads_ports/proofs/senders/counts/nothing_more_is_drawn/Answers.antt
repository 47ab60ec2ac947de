-- A lemma says so.
use Rattle.threads_ports.proofs.Told.{nothing_more_is_drawn as law}
use Rattle.threads_ports.proofs.senders.counts.nothing_more_is_drawn.Goals as goal

pub returns : goal.returns
returns c = law
