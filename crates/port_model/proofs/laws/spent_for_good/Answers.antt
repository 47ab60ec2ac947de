use Rattle.port_model.proofs.Spent.{spent_for_good as law}
use Rattle.port_model.proofs.laws.spent_for_good.Goals as goal

pub returns : goal.returns
returns c = law
