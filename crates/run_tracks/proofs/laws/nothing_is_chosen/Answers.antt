-- A lemma says so.
use Rattle.run_tracks.proofs.Orders.{nothing_is_chosen}
use Rattle.run_tracks.proofs.laws.nothing_is_chosen.Goals as goal

pub returns : goal.returns
returns c = nothing_is_chosen
