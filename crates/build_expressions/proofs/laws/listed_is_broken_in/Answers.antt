use Rattle.build_expressions.proofs.ListedLaws.{listed-broken-in}
use Rattle.build_expressions.proofs.laws.listed_is_broken_in.Goals as goal

pub returns : goal.returns
returns c = listed-broken-in
