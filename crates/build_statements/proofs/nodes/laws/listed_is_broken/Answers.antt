use Rattle.build_statements.proofs.ListedLaws.{listed-broken}
use Rattle.build_statements.proofs.nodes.laws.listed_is_broken.Goals as goal

pub returns : goal.returns
returns c = listed-broken
