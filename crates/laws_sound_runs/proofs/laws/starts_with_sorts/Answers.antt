use Rattle.laws_sound_runs.proofs.SortLemmas.{starts-with-sorts}
use Rattle.laws_sound_runs.proofs.laws.starts_with_sorts.Goals as goal

pub returns : goal.returns
returns c = starts-with-sorts
