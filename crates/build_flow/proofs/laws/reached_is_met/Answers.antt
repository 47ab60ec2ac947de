use Rattle.build_flow.proofs.ReachLaws.{reached-listed}
use Rattle.build_flow.proofs.laws.reached_is_met.Goals as goal

pub returns : goal.returns
returns c = reached-listed
