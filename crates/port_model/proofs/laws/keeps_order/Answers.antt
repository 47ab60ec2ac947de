use Rattle.port_model.proofs.Order.{keeps_order as law}
use Rattle.port_model.proofs.laws.keeps_order.Goals as goal

pub returns : goal.returns
returns c = law
