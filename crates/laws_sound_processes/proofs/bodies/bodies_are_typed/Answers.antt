use Rattle.laws_sound_processes.proofs.TypedLemmas.{bodies-are-typed}
use Rattle.laws_sound_processes.proofs.bodies.bodies_are_typed.Goals as goal

pub returns : goal.returns
returns c = bodies-are-typed
