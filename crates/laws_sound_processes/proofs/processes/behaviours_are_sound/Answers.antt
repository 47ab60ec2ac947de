use Rattle.laws_sound_processes.proofs.BehaviourLemmas.{behaviours-are-sound}
use Rattle.laws_sound_processes.proofs.processes.behaviours_are_sound.Goals as goal

pub returns : goal.returns
returns c = behaviours-are-sound
