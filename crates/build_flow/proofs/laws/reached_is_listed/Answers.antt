use Rattle.build_flow.proofs.StayLaws.{stays-listed}
use Rattle.build_flow.proofs.laws.reached_is_listed.Goals as goal

pub returns : goal.returns
returns c = stays-listed
