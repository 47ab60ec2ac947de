use Rattle.laws_sound_runs.proofs.PlaceLemmas.{comes-to-states}
use Rattle.laws_sound_runs.proofs.laws.comes_to_states.Goals as goal

pub returns : goal.returns
returns c = comes-to-states
