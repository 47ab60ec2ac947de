use Rattle.std.proofs.Common.{◌∷◌, ◌∙◌, ap, sym}
use Rattle.run_record.specs.Told.{event_told}
use Rattle.run_order.proofs.comparing.have_same_events.Goals as goal

pub returns-then-not-is_next : goal.returns-then-not-is_next
returns-then-not-is_next c = (
  λ yes. let no : ⊥ = cc in absurd no,
  λ same.
      absurd (c.is_next.ensures.other c.if-not-is_next.true _ (c.loop-told.invariant.1 same ∙ c.in-Some.ensures.steps)),
)

pub loop-told-init : goal.loop-told-init
loop-told-init c = (λ same. cc, λ same. cc)

pub loop-told-preserved : goal.loop-told-preserved
loop-told-preserved c = (
  λ matches.
      c.loop-told.invariant.0
      (c.is_next.ensures.next c.if-not-is_next.false ∙ ap (λ rest. event_told c.in-Some.told ∷ rest) matches
      ∙ sym c.in-Some.ensures.steps),
  λ same.
      let both =
      sym (c.is_next.ensures.next c.if-not-is_next.false) ∙ c.loop-told.invariant.1 same ∙ c.in-Some.ensures.steps in
      cc,
)

pub returns : goal.returns
returns c = (
  λ is. c.loop-told.invariant.0 (c.is_done.ensures.0 is ∙ sym c.in-None.ensures.steps.0),
  λ same. c.is_done.ensures.1 (c.loop-told.invariant.1 same ∙ c.in-None.ensures.steps.0),
)
