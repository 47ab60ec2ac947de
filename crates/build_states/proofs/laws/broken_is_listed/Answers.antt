use Rattle.build_states.proofs.BrokenLaws.{broken-listed}
use Rattle.build_states.proofs.laws.broken_is_listed.Goals as goal

pub returns : goal.returns
returns c = broken-listed
