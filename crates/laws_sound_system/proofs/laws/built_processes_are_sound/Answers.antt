use Rattle.laws_sound_system.proofs.SystemLemmas.{built-processes-are-sound}
use Rattle.laws_sound_system.proofs.laws.built_processes_are_sound.Goals as goal

pub returns : goal.returns
returns c = built-processes-are-sound
