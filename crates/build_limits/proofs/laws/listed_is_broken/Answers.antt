use Rattle.build_limits.proofs.LimitLaws.{listed-broken}
use Rattle.build_limits.proofs.laws.listed_is_broken.Goals as goal

pub returns : goal.returns
returns c = listed-broken
