use Rattle.build_process.proofs.CloseLemmas.{bodies-closed}
use Rattle.build_process.proofs.laws.bodies_closed.Goals as goal

pub returns : goal.returns
returns c = bodies-closed
