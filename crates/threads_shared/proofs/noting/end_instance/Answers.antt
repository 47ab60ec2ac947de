-- The step by which an instance ends is noted with one version more; an end before is not.
use Rattle.std.proofs.Common.{◌≡◌, ◌∙◌, ap, arith, length, refl, List}
use Rattle.run_record.specs.Event.{Event}
use Rattle.threads_instance.specs.ThreadInstance.{ThreadInstanceState}
use Rattle.threads_shared.proofs.noting.end_instance.Goals as goal

pub returns-then-len-told-clause-noted : goal.returns-then-len-told-clause-noted
returns-then-len-told-clause-noted g c = λ kept more.
    let count : c.len.result ≡ length c.args.seated.now.value.instance.events =
    c.len.ensures ∙ ap (λ (events : List Event). length events) c.trace.ensures.events
    ∙ ap (λ (m : ThreadInstanceState). length m.instance.events) c.deref-2.ensures in
    let wrong : ⊥ = omega (arith, more, count, c.if-len-told.true) in absurd wrong

pub returns-then-len-told-clause-ended : goal.returns-then-len-told-clause-ended
returns-then-len-told-clause-ended g c = λ few. record { same = refl; kept = refl }

pub returns-clause-noted : goal.returns-clause-noted
returns-clause-noted g c = λ kept told. record {
  version = c.end-version.result;
  more = c.note_version.new.self.versions;
  seen = c.note_version.ensures.noted;
  noted = c.note_step.ensures.noted kept;
}

pub returns-clause-ended : goal.returns-clause-ended
returns-clause-ended g c = λ few.
    let count : c.len.result ≡ length c.args.seated.now.value.instance.events =
    c.len.ensures ∙ ap (λ (events : List Event). length events) c.trace.ensures.events
    ∙ ap (λ (m : ThreadInstanceState). length m.instance.events) c.deref-2.ensures in
    let wrong : ⊥ = omega (arith, few, count, c.if-len-told.false) in absurd wrong
