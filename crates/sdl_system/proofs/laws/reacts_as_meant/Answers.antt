use Rattle.sdl_system.proofs.BehaviourLemmas.{reacts_as_meant}
use Rattle.sdl_system.proofs.laws.reacts_as_meant.Goals as goal

pub returns : goal.returns
returns c = reacts_as_meant
