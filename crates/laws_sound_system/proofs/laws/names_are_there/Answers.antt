use Rattle.laws_sound_system.proofs.SystemLemmas.{names-are-there}
use Rattle.laws_sound_system.proofs.laws.names_are_there.Goals as goal

pub returns : goal.returns
returns c = names-are-there
