use Rattle.std.proofs.Common.{◌+◌, ◌∙◌, ◌++◌, ◌∷◌, [], ap, append_assoc, if◌then◌else◌, sym}
use Rattle.view_text.proofs.Losing.{takes-heard, takes-unheard}
use Rattle.view_text.specs.Lost.{same_arrival, takes}
use Rattle.view_text.specs.Step.{step_value}
use Rattle.view_text.specs.declared.arrival.Arrival.{Arrival}
use Rattle.view_text.proofs.takes.Takes.new.Goals as goal

pub loop-step-preserved-in-Continue-branch-2 : goal.loop-step-preserved-in-Continue-branch-2
loop-step-preserved-in-Continue-branch-2 c =
    let passed = c.loop-step.invariant.0 in
    let step = step_value c.in-Some.step in
    let signal = c.in-Some-heard_by.signal in (
      passed ++ step ∷ [],
      append_assoc passed (step ∷ []) _ ∙ ap (λ l. passed ++ l) (sym c.in-Some.ensures.left)
          ∙ c.loop-step.invariant.1,
      λ arrival.
          let more = λ (it : Arrival). takes passed arrival + (if same_arrival it arrival then 1 else 0) in
          c.in_ok-add.ensures arrival
          ∙ ap (λ n. n + (if same_arrival (record { number = c.pid.result; signal = signal }) arrival then 1 else 0))
          (c.loop-step.invariant.2 arrival)
          ∙ ap (λ number. more (record { number = number; signal = signal })) c.pid.ensures
          ∙ sym (takes-heard arrival passed step signal (sym (c.in-Some-heard_by.ensures c.in-Some.step.values.now))),
    )

pub loop-step-preserved : goal.loop-step-preserved
loop-step-preserved c =
    let passed = c.loop-step.invariant.0 in
    let step = step_value c.in-Some.step in (
      passed ++ step ∷ [],
      append_assoc passed (step ∷ []) _ ∙ ap (λ l. passed ++ l) (sym c.in-Some.ensures.left)
          ∙ c.loop-step.invariant.1,
      λ arrival.
          c.loop-step.invariant.2 arrival
          ∙ sym (takes-unheard arrival passed step (sym (c.in_default-heard_by.ensures c.in-Some.step.values.now))),
    )
