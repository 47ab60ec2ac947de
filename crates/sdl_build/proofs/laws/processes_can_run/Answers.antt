use Rattle.sdl_build.proofs.LawLemmas.{processes-can-run}
use Rattle.sdl_build.proofs.laws.processes_can_run.Goals as goal

pub returns : goal.returns
returns c = processes-can-run
