-- A lemma says so.
use Rattle.threads_ports.proofs.Told.{no_fewer_are_drawn as law}
use Rattle.threads_ports.proofs.senders.counts.no_fewer_are_drawn.Goals as goal

pub returns : goal.returns
returns c = law
