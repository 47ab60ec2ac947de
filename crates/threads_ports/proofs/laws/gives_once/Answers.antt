-- A lemma says so.
use Rattle.threads_ports.proofs.OwnerLaws.{given_once as law}
use Rattle.threads_ports.proofs.laws.gives_once.Goals as goal

pub returns : goal.returns
returns c = law
