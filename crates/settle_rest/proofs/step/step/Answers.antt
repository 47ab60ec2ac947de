-- A step is one of the instance in its box.
use Rattle.std.proofs.Common.{subst}
use Rattle.settle_rest.proofs.step.step.Goals as goal
use Rattle.threads_instance.specs.ThreadInstance.{ThreadInstanceState}
use Rattle.threads_shared.specs.Noting.{StepsAt}

pub returns-clause-steps : goal.returns-clause-steps
returns-clause-steps g c =
    subst (λ (m : ThreadInstanceState). StepsAt c.args.time c.step.result m c.step.new.self) c.deref_mut.ensures.value
    c.step.ensures.steps
