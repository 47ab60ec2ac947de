-- A lemma says so.
use Rattle.settle_meaning.proofs.Reports.{settled_reports_are_settled as law}
use Rattle.settle_meaning.proofs.laws.settled_reports_are_settled.Goals as goal

pub returns : goal.returns
returns c = law
