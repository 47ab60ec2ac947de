use Rattle.build_flow.proofs.PathLaws.{passed}
use Rattle.build_flow.proofs.laws.runs_off_passed.Goals as goal

pub returns : goal.returns
returns c = λ enters t comes from begun path. passed enters path comes begun
