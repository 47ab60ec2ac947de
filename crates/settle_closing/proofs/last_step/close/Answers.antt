-- The step before the close keeps who it is, and adds no transition. It is noted, and no other one is.
use Rattle.std.proofs.Common.{◌≡◌, ◌∙◌, ap, refl, subst, sym}
use Rattle.std.proofs.lemmas.Bool.{false≢true}
use Rattle.std.specs.Global.{Box}
use Rattle.port_model.specs.Ends.{OwnerState}
use Rattle.settle_closing.proofs.Stepping.{closed_rested}
use Rattle.settle_closing.proofs.last_step.close.Goals as goal
use Rattle.settle_closing.proofs.last_step.close.Goals.{else-whole, then-whole+in_ok-rest}
use Rattle.settle_closing.specs.Left.{IsClosedNow}
use Rattle.settle_closing.specs.Noted.{HasNotedRest, IsClosedWith}
use Rattle.threads_instance.specs.ThreadInstance.{ThreadInstanceState}

pub returns-clause-closed : goal.returns-clause-closed
returns-clause-closed g c =
    let old = c.args.seated.value.instance in
    let trace = c.closed.result.trace in
    let now : IsClosedNow c.if-whole.seated.value.instance trace =
    subst (λ (m : ThreadInstanceState). IsClosedNow m.instance trace) c.into_inner.ensures c.closed.ensures.closed in
    elim c.if-whole.branch as (λ _. IsClosedNow old trace) [
      | then-whole+in_ok-rest w ↦
          closed_rested old w.rest.new.seated.value.instance trace w.in_ok-rest.ensures.keeps
          (subst (λ (b : Box ThreadInstanceState). IsClosedNow b.value.instance trace) w.seated-is now)
          w.in_ok-rest.ensures.events
      | else-whole w ↦
          subst (λ (b : Box ThreadInstanceState). IsClosedNow b.value.instance trace) w.seated-is now
    ]

pub returns-clause-noted : goal.returns-clause-noted
returns-clause-noted g c = λ whole keeps.
    elim c.if-whole.branch as (λ _. IsClosedWith HasNotedRest c.args.seated.value c.closed.result) [
      | then-whole+in_ok-rest w ↦
          let last : c.into_inner.result ≡ w.rest.new.seated.value =
          c.into_inner.ensures ∙ ap (λ (b : Box ThreadInstanceState). b.value) w.seated-is in
          record {
            last = w.rest.new.seated.value;
            comes = w.in_ok-rest.ensures.noted keeps;
            owner = c.closed.ensures.owner ∙ ap (λ (m : ThreadInstanceState). m.instance.owner) last;
            peers = c.closed.ensures.peers ∙ ap (λ (m : ThreadInstanceState). m.peers) last;
            course = c.closed.ensures.course ∙ ap (λ (m : ThreadInstanceState). m.course) last;
          }
      | else-whole w ↦ absurd (false≢true (sym w.if-whole.false ∙ whole))
    ]

pub returns-clause-off : goal.returns-clause-off
returns-clause-off g c = λ none.
    c.closed.ensures.course ∙ ap (λ (m : ThreadInstanceState). m.course) c.into_inner.ensures
    ∙ elim c.if-whole.branch as (λ _. c.if-whole.seated.value.course ≡ c.args.seated.value.course) [
      | then-whole+in_ok-rest w ↦
          ap (λ (b : Box ThreadInstanceState). b.value.course) w.seated-is ∙ w.in_ok-rest.ensures.off none
      | else-whole w ↦ ap (λ (b : Box ThreadInstanceState). b.value.course) w.seated-is
    ]

pub returns-clause-unstepped : goal.returns-clause-unstepped
returns-clause-unstepped g c = λ cut.
    elim c.if-whole.branch as (λ _. IsClosedWith (λ old last. last ≡ old) c.args.seated.value c.closed.result) [
      | then-whole+in_ok-rest w ↦ absurd (false≢true (sym cut ∙ w.if-whole.true))
      | else-whole w ↦
          let last : c.into_inner.result ≡ c.args.seated.value =
          c.into_inner.ensures ∙ ap (λ (b : Box ThreadInstanceState). b.value) w.seated-is in
          record {
            last = c.args.seated.value;
            comes = refl;
            owner = c.closed.ensures.owner ∙ ap (λ (m : ThreadInstanceState). m.instance.owner) last;
            peers = c.closed.ensures.peers ∙ ap (λ (m : ThreadInstanceState). m.peers) last;
            course = c.closed.ensures.course ∙ ap (λ (m : ThreadInstanceState). m.course) last;
          }
    ]
