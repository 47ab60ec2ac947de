-- A lemma says so.
use Rattle.threads_ports.proofs.Told.{rows_stay as law}
use Rattle.threads_ports.proofs.senders.counts.rows_stay.Goals as goal

pub returns : goal.returns
returns c = law
