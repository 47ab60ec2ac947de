use Rattle.build_network.proofs.ListedLaws.{listed-broken}
use Rattle.build_network.proofs.laws.listed_is_broken.Goals as goal

pub returns : goal.returns
returns c = listed-broken
