-- No end is before an event: a lemma says so.
use Rattle.laws_creates.proofs.Ends.{ends_are_not_before}
use Rattle.laws_creates.proofs.laws.ends_are_not_before.Goals as goal

pub returns : goal.returns
returns c = ends_are_not_before
