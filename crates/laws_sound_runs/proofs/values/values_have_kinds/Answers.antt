use Rattle.laws_sound_runs.proofs.ValueLemmas.{values-have-kinds}
use Rattle.laws_sound_runs.proofs.values.values_have_kinds.Goals as goal

pub returns : goal.returns
returns c = values-have-kinds
