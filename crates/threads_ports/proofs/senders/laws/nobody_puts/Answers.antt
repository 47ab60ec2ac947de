-- A lemma says so.
use Rattle.threads_ports.proofs.LawLemmas.{nobody_puts as law}
use Rattle.threads_ports.proofs.senders.laws.nobody_puts.Goals as goal

pub returns : goal.returns
returns c = law
