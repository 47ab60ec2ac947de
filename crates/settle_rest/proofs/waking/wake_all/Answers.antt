use Rattle.std.proofs.Common.{◌≡◌, ◌∙◌, ◌++◌, ◌∷◌, [], ap, append-nil, append_assoc, inl, refl, rules, sym}
use Rattle.std.proofs.lemmas.List.Elements.{All-nil, All-push, All-same, All-weaker}
use Rattle.settle_rest.specs.Woken.{IsAwake}
use Rattle.settle_rest.proofs.waking.wake_all.Goals as goal

pub loop-number-init : goal.loop-number-init
loop-number-init c = ([], refl, All-nil (IsAwake c.args.ready.now), λ n there. there, λ are. are)

pub returns-in_err-wake-clause-kept : goal.returns-in_err-wake-clause-kept
returns-in_err-wake-clause-kept c = λ n there. c.wake.ensures.kept n (c.loop-number.invariant.3 n there)

pub returns-in_err-wake-clause-numbers : goal.returns-in_err-wake-clause-numbers
returns-in_err-wake-clause-numbers c = λ are. c.wake.ensures.numbers (c.loop-number.invariant.4 are)

pub loop-number-preserved : goal.loop-number-preserved
loop-number-preserved c =
    let old = c.loop-number.ready in
    let new = c.wake.new.ready in
    let done = c.loop-number.invariant.0 in
    let one = c.in-Some.number in (
      done ++ one ∷ [],
      c.loop-number.invariant.1 ∙ ap (λ l. done ++ l) c.in-Some.ensures.steps
          ∙ sym (append_assoc done (one ∷ []) c.next.new.self),
      All-push (IsAwake new) done one
          (All-weaker (IsAwake old) (IsAwake new) (λ n is some. c.wake.ensures.kept n (is some)) done
          c.loop-number.invariant.2)
          (λ some. (c.in_ok-wake.ensures.ok one).1 (inl (some, refl))),
      λ n there. c.wake.ensures.kept n (c.loop-number.invariant.3 n there),
      λ are. c.wake.ensures.numbers (c.loop-number.invariant.4 are),
    )

pub returns-clause-awake : goal.returns-clause-awake
returns-clause-awake c =
    let done = c.loop-number.invariant.0 in
    let read : c.into_iter-number-iterator.result ≡ c.args.receivers = search rules in
    All-same (IsAwake c.loop-number.ready) c.args.receivers done
    (sym read ∙ c.loop-number.invariant.1 ∙ ap (λ l. done ++ l) c.in-None.ensures.steps.0 ∙ append-nil done)
    c.loop-number.invariant.2
