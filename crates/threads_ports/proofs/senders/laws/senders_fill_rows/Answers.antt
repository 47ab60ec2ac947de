-- A lemma says so.
use Rattle.threads_ports.proofs.LawLemmas.{senders_fill_rows as law}
use Rattle.threads_ports.proofs.senders.laws.senders_fill_rows.Goals as goal

pub returns : goal.returns
returns c = law
