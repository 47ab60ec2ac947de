use Rattle.build_flow.proofs.PathLaws.{runs}
use Rattle.build_flow.proofs.laws.passed_runs_off.Goals as goal

pub returns : goal.returns
returns c = runs
