use Rattle.build_limits.proofs.LimitLaws.{broken-listed}
use Rattle.build_limits.proofs.laws.broken_is_listed.Goals as goal

pub returns : goal.returns
returns c = broken-listed
