-- A lemma says so.
use Rattle.run_tracks.proofs.Apart.{two_are_apart}
use Rattle.run_tracks.proofs.laws.two_are_apart.Goals as goal

pub returns : goal.returns
returns c = two_are_apart
