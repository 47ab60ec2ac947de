use Rattle.laws_sound_system.proofs.SystemLemmas.{receivers-are-there}
use Rattle.laws_sound_system.proofs.laws.receivers_are_there.Goals as goal

pub returns : goal.returns
returns c = receivers-are-there
