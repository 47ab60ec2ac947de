use Rattle.build_states.proofs.StimuliBrokenLaws.{listed-broken}
use Rattle.build_states.proofs.stimuli.laws.listed_is_broken.Goals as goal

pub returns : goal.returns
returns c = listed-broken
