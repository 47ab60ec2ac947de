-- Who finds nothing to do rests, and so does who has ended; neither made a transition.
use Rattle.std.proofs.Common.{ap, inl, inr, subst}
use Rattle.run_semantics.specs.ControlPoint.{Definition}
use Rattle.sdl_interp.specs.Instance.{IsRunAs}
use Rattle.sdl_interp.specs.declared.instance.Stepped.TheVariants.{Ended}
use Rattle.settle_closing.proofs.Stepping.{idle_rested, none_counted}
use Rattle.settle_closing.proofs.last_step.step_to_rest.Goals as goal
use Rattle.settle_closing.specs.Left.{HasNoMore}
use Rattle.threads_instance.specs.ThreadInstance.{ThreadInstanceState}
use Rattle.threads_shared.specs.Noting.{StepsAt}

pub returns-in-Idle-clause-rests : goal.returns-in-Idle-clause-rests
returns-in-Idle-clause-rests g c =
    (idle_rested c.deref_mut.result.now.instance c.step-stepped.new.self.instance _ _ c.in-Idle.ensures.keeps
    c.in-Idle.ensures.steps).rests

pub returns-in-Idle-clause-events : goal.returns-in-Idle-clause-events
returns-in-Idle-clause-events g c =
    let new = c.step-stepped.new.self.instance in
    subst (λ (m : ThreadInstanceState). (d : Definition) → IsRunAs m.instance d → HasNoMore m.instance.events new.events)
    c.deref_mut.ensures.value
    (idle_rested c.deref_mut.result.now.instance new _ _ c.in-Idle.ensures.keeps c.in-Idle.ensures.steps).events

pub returns-in-Idle-clause-quiet : goal.returns-in-Idle-clause-quiet
returns-in-Idle-clause-quiet g c = inl c.in-Idle.is

pub returns-in-Ended-false-clause-events : goal.returns-in-Ended-false-clause-events
returns-in-Ended-false-clause-events g c =
    let new = c.step-stepped.new.self.instance in
    subst (λ (m : ThreadInstanceState). (d : Definition) → IsRunAs m.instance d → HasNoMore m.instance.events new.events)
    c.deref_mut.ensures.value
    (none_counted c.in-Ended-false.counts c.deref_mut.result.now.instance new _ _
    c.in-Ended-false.ensures.steps c.in-Ended-false.counts-test).events

pub returns-in-Ended-false-clause-quiet : goal.returns-in-Ended-false-clause-quiet
returns-in-Ended-false-clause-quiet g c = inr (ap Ended c.in-Ended-false.counts-test)

pub returns-in-Idle-clause-steps : goal.returns-in-Idle-clause-steps
returns-in-Idle-clause-steps g c =
    subst (λ (m : ThreadInstanceState). StepsAt c.args.at c.step-stepped.result m c.step-stepped.new.self)
    c.deref_mut.ensures.value c.step-stepped.ensures.steps

pub returns-in-Ended-false-clause-steps : goal.returns-in-Ended-false-clause-steps
returns-in-Ended-false-clause-steps g c =
    let stepped = Ended c.in-Ended-false.counts in
    subst (λ (m : ThreadInstanceState). StepsAt c.args.at stepped m c.step-stepped.new.self) c.deref_mut.ensures.value
    c.in-Ended-false.ensures.steps
