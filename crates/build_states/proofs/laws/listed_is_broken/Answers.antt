use Rattle.build_states.proofs.BrokenLaws.{listed-broken}
use Rattle.build_states.proofs.laws.listed_is_broken.Goals as goal

pub returns : goal.returns
returns c = listed-broken
