use Rattle.laws_sound_runs.proofs.CauseLemmas.{undefined-is-unassigned}
use Rattle.laws_sound_runs.proofs.laws.undefined_is_unassigned.Goals as goal

pub returns : goal.returns
returns c = undefined-is-unassigned
