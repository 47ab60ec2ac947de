use Rattle.laws_sound_runs.proofs.ValueLemmas.{stays-what-it-is}
use Rattle.laws_sound_runs.proofs.values.stays_what_it_is.Goals as goal

pub returns : goal.returns
returns c = stays-what-it-is
