use Rattle.laws_sound_runs.proofs.SortLemmas.{runs-keep-sorts}
use Rattle.laws_sound_runs.proofs.laws.runs_keep_sorts.Goals as goal

pub returns : goal.returns
returns c = runs-keep-sorts
