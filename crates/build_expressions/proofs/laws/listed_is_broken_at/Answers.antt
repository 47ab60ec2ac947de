use Rattle.build_expressions.proofs.ListedLaws.{listed-broken-at}
use Rattle.build_expressions.proofs.laws.listed_is_broken_at.Goals as goal

pub returns : goal.returns
returns c = listed-broken-at
