use Rattle.laws_sound_processes.proofs.KindLemmas.{runs-have-kinds}
use Rattle.laws_sound_processes.proofs.processes.runs_have_kinds.Goals as goal

pub returns : goal.returns
returns c = runs-have-kinds
