use Rattle.laws_sound_runs.proofs.SortLemmas.{values-fit-places}
use Rattle.laws_sound_runs.proofs.laws.values_fit_places.Goals as goal

pub returns : goal.returns
returns c = values-fit-places
