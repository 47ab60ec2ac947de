use Rattle.build_flow.proofs.ReachLaws.{met-reached}
use Rattle.build_flow.proofs.laws.met_is_reached.Goals as goal

pub returns : goal.returns
returns c = λ all names are. met-reached all names are.each
