use Rattle.port_model.proofs.Resets.{resets_for_good as law}
use Rattle.port_model.proofs.laws.resets_for_good.Goals as goal

pub returns : goal.returns
returns c = law
