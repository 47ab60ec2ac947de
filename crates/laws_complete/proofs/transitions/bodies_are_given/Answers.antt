use Rattle.laws_complete.proofs.TransitionLemmas.{bodies-given}
use Rattle.laws_complete.proofs.transitions.bodies_are_given.Goals as goal

pub returns : goal.returns
returns c = bodies-given
