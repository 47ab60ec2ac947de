use Rattle.build_states.proofs.StimuliBrokenLaws.{broken-listed}
use Rattle.build_states.proofs.stimuli.laws.broken_is_listed.Goals as goal

pub returns : goal.returns
returns c = broken-listed
