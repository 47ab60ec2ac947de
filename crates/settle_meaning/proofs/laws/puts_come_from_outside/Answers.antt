-- Puts come from outside: a lemma says so.
use Rattle.settle_meaning.proofs.Drawn.{puts_come_from_outside as law}
use Rattle.settle_meaning.proofs.laws.puts_come_from_outside.Goals as goal

pub returns : goal.returns
returns c = law
