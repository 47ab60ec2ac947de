use Rattle.laws_sound_processes.proofs.BodyLemmas.{typed-actions-are-sound}
use Rattle.laws_sound_processes.proofs.bodies.typed_actions_are_sound.Goals as goal

pub returns : goal.returns
returns c = typed-actions-are-sound
