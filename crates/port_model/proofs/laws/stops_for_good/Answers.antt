use Rattle.port_model.proofs.Resets.{stops_for_good as law}
use Rattle.port_model.proofs.laws.stops_for_good.Goals as goal

pub returns : goal.returns
returns c = law
