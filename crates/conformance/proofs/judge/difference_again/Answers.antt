use Rattle.std.proofs.Common.{◌≡◌, ◌↔◌, IfOk, IsNone, subst}
use Rattle.conformance.specs.Judgement.{IsAnswer}
use Rattle.conformance.proofs.JudgeLaws.{again_found}
use Rattle.conformance.proofs.judge.difference_again.Goals as goal

pub returns : goal.returns
returns g c =
    let options = c.args.options.now in
    let again = c.answer_of-again.result in
    let found = c.first_difference.result in
    again_found options c.args.answer.now again found
    (subst (λ input. IsAnswer input options again.output.items again.status) c.as_slice.ensures.value c.answer_of-again.ensures)
    (subst (λ want. IfOk found (λ pair. IsNone pair ↔ (want ≡ again.output.items))) c.as_slice-2.ensures.value
    (subst (λ told. IfOk found (λ pair. IsNone pair ↔ (c.as_slice-2.result.now ≡ told))) c.as_slice-3.ensures.value c.first_difference.ensures))
