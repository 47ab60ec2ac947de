use Rattle.build_network.proofs.BrokenLaws.{broken-listed}
use Rattle.build_network.proofs.laws.broken_is_listed.Goals as goal

pub returns : goal.returns
returns c = broken-listed
