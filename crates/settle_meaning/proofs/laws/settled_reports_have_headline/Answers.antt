-- A lemma says so.
use Rattle.settle_meaning.proofs.Headlines.{settled_reports_have_headline as law}
use Rattle.settle_meaning.proofs.laws.settled_reports_have_headline.Goals as goal

pub returns : goal.returns
returns c = law
