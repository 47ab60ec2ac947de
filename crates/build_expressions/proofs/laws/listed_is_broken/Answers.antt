use Rattle.build_expressions.proofs.ListedLaws.{listed-broken}
use Rattle.build_expressions.proofs.laws.listed_is_broken.Goals as goal

pub returns : goal.returns
returns c = listed-broken
