use Rattle.laws_sound_processes.proofs.TypedLemmas.{transitions-are-typed}
use Rattle.laws_sound_processes.proofs.bodies.transitions_are_typed.Goals as goal

pub returns : goal.returns
returns c = transitions-are-typed
