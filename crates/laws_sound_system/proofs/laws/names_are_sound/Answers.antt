use Rattle.laws_sound_system.proofs.SystemLemmas.{names-are-sound}
use Rattle.laws_sound_system.proofs.laws.names_are_sound.Goals as goal

pub returns : goal.returns
returns c = names-are-sound
