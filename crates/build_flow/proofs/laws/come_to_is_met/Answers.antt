use Rattle.build_flow.proofs.PathLaws.{met}
use Rattle.build_flow.proofs.laws.come_to_is_met.Goals as goal

pub returns : goal.returns
returns c = λ enters terminator t comes from begun path. met enters terminator path comes begun
