-- A state selects the same, whatever is drawn: a lemma says so.
use Rattle.run_semantics.proofs.Same.{selecting_drawn}
use Rattle.run_semantics.proofs.laws.selects_whatever_is_drawn.Goals as goal

pub returns : goal.returns
returns c d who q n s classes pid news selecting = selecting_drawn d who q n s classes pid news selecting
