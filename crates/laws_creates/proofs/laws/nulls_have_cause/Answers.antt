-- Each create without a number has its cause: a lemma says so.
use Rattle.laws_creates.proofs.Steps.{nulls_have_cause}
use Rattle.laws_creates.proofs.laws.nulls_have_cause.Goals as goal

pub returns : goal.returns
returns c = nulls_have_cause
