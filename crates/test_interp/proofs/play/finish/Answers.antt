use Rattle.test_interp.proofs.Resting.{idle_rests}
use Rattle.test_interp.proofs.play.finish.Goals as goal

pub close-requires : goal.close-requires
close-requires c idle = λ _. idle_rests _ _ _ _ _ idle.in-Idle.is idle.step.ensures.keeps idle.step.ensures.steps
