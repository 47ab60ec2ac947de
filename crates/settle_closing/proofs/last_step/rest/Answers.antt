-- That a step is noted changes the course alone.
use Rattle.std.proofs.Common.{◌≡◌, ◌∙◌, ap, length, subst, sym, List}
use Rattle.run_record.specs.Event.{Event}
use Rattle.run_semantics.specs.ControlPoint.{Definition}
use Rattle.sdl_interp.specs.Instance.{IsAtRest, IsRunAs, Keeps}
use Rattle.settle_closing.proofs.last_step.rest.Goals as goal
use Rattle.settle_closing.specs.Left.{HasNoMore}
use Rattle.threads_instance.specs.ThreadInstance.{ThreadInstanceState}
use Rattle.threads_shared.proofs.NotingLemmas.{has_noted}

pub returns-clause-keeps : goal.returns-clause-keeps
returns-clause-keeps g c =
    subst (λ (m : ThreadInstanceState). Keeps c.args.seated.now.value.instance m.instance)
    (sym c.note_stepped.ensures.rest) c.in_ok-stepped.ensures.keeps

pub returns-clause-rests : goal.returns-clause-rests
returns-clause-rests g c =
    subst (λ (m : ThreadInstanceState). IsAtRest m.instance) (sym c.note_stepped.ensures.rest)
    c.in_ok-stepped.ensures.rests

pub returns-clause-events : goal.returns-clause-events
returns-clause-events g c =
    let old = c.args.seated.now.value.instance in
    subst (λ (m : ThreadInstanceState). (d : Definition) → IsRunAs old d → HasNoMore old.events m.instance.events)
    (sym c.note_stepped.ensures.rest) c.in_ok-stepped.ensures.events

pub returns-clause-off : goal.returns-clause-off
returns-clause-off g c = λ none.
    ap (λ (m : ThreadInstanceState). m.course) (c.note_stepped.ensures.off none) ∙ c.in_ok-stepped.ensures.course

pub returns-clause-noted : goal.returns-clause-noted
returns-clause-noted g c = λ kept. record {
  stepped = c.in_ok-stepped.stepped;
  rests = c.in_ok-stepped.ensures.quiet;
  noted = has_noted c.in_ok-stepped.stepped c.len-told.result _ _ c.args.seated.now.value
      c.step_to_rest.new.seated.value c.note_stepped.new.seated.value c.args.at c.in_ok-stepped.ensures.steps
      c.in_ok-stepped.ensures.course c.note_stepped.ensures.rest
      (c.len-told.ensures ∙ ap (λ (events : List Event). length events) c.trace.ensures.events
      ∙ ap (λ (m : ThreadInstanceState). length m.instance.events) c.deref.ensures)
      (c.note_stepped.ensures.noted kept);
}
