-- A step is noted as it was made.
use Rattle.std.proofs.Common.{◌∙◌, ap, length, subst, List}
use Rattle.run_record.specs.Event.{Event}
use Rattle.threads_instance.specs.ThreadInstance.{ThreadInstanceState}
use Rattle.threads_shared.proofs.NotingLemmas.{has_noted}
use Rattle.threads_shared.specs.Noting.{StepsAt}
use Rattle.threads_workers.proofs.job.step.Goals as goal

pub returns-clause-noted : goal.returns-clause-noted
returns-clause-noted g c = λ kept.
    has_noted c.step-stepped.result c.len-told.result _ _ c.args.seated.now.value c.step-stepped.new.self
    c.note_stepped.new.seated.value _
    (subst (λ (m : ThreadInstanceState). StepsAt c.now-time.result c.step-stepped.result m c.step-stepped.new.self)
    c.deref_mut.ensures.value c.step-stepped.ensures.steps)
    (c.step-stepped.ensures.course ∙ ap (λ (m : ThreadInstanceState). m.course) c.deref_mut.ensures.value)
    c.note_stepped.ensures.rest
    (c.len-told.ensures ∙ ap (λ (events : List Event). length events) c.trace.ensures.events
    ∙ ap (λ (m : ThreadInstanceState). length m.instance.events) c.deref.ensures)
    (c.note_stepped.ensures.noted kept)
