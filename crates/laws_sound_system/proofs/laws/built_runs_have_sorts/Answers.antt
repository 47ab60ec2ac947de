use Rattle.laws_sound_system.proofs.HeadingLemmas.{built-runs-have-sorts}
use Rattle.laws_sound_system.proofs.laws.built_runs_have_sorts.Goals as goal

pub returns : goal.returns
returns c = built-runs-have-sorts
