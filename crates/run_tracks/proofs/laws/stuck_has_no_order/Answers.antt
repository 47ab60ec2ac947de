-- A lemma says so.
use Rattle.run_tracks.proofs.Orders.{stuck_has_no_order}
use Rattle.run_tracks.proofs.laws.stuck_has_no_order.Goals as goal

pub returns : goal.returns
returns c = stuck_has_no_order
