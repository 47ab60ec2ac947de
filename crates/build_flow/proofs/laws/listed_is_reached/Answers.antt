use Rattle.build_flow.proofs.StayLaws.{listed-stays}
use Rattle.build_flow.proofs.laws.listed_is_reached.Goals as goal

pub returns : goal.returns
returns c = listed-stays
