use Rattle.build_flow.proofs.PathLaws.{comes-to}
use Rattle.build_flow.proofs.laws.met_is_come_to.Goals as goal

pub returns : goal.returns
returns c = comes-to
