-- What has ended goes no further: a lemma says so.
use Rattle.run_semantics.proofs.Ends.{ends_for_good}
use Rattle.run_semantics.proofs.laws.ends_for_good.Goals as goal

pub returns : goal.returns
returns c = ends_for_good
