-- A step is noted as it was made.
use Rattle.std.proofs.Common.{◌∙◌, ap, length, List}
use Rattle.run_record.specs.Event.{Event}
use Rattle.threads_instance.specs.ThreadInstance.{ThreadInstanceState}
use Rattle.threads_shared.proofs.NotingLemmas.{has_noted}
use Rattle.settle_rest.proofs.instances.Rest.step_noted.Goals as goal

pub returns-clause-noted : goal.returns-clause-noted
returns-clause-noted g c = λ kept.
    has_noted c.step-stepped.result c.len-told.result _ _ c.args.seated.now.value c.step-stepped.new.seated.value
    c.note_stepped.new.seated.value c.args.time c.step-stepped.ensures.steps c.step-stepped.ensures.course
    c.note_stepped.ensures.rest
    (c.len-told.ensures ∙ ap (λ (events : List Event). length events) c.trace.ensures.events
    ∙ ap (λ (m : ThreadInstanceState). length m.instance.events) c.deref.ensures)
    (c.note_stepped.ensures.noted kept)

pub returns-clause-off : goal.returns-clause-off
returns-clause-off g c = λ none.
    ap (λ (m : ThreadInstanceState). m.course) (c.note_stepped.ensures.off none) ∙ c.step-stepped.ensures.course
