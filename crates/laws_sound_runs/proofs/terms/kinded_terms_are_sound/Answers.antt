use Rattle.laws_sound_runs.proofs.SoundLemmas.{kinded-terms-are-sound}
use Rattle.laws_sound_runs.proofs.terms.kinded_terms_are_sound.Goals as goal

pub returns : goal.returns
returns c = kinded-terms-are-sound
