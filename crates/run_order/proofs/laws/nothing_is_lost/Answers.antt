-- Nothing is lost: a lemma says so.
use Rattle.run_order.proofs.Lost.{nothing_is_lost}
use Rattle.run_order.proofs.laws.nothing_is_lost.Goals as goal

pub returns : goal.returns
returns c = nothing_is_lost
