use Rattle.laws_sound_runs.proofs.SoundLemmas.{fitting-terms-are-sound}
use Rattle.laws_sound_runs.proofs.terms.fitting_terms_are_sound.Goals as goal

pub returns : goal.returns
returns c = fitting-terms-are-sound
