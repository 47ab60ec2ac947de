use Rattle.std.proofs.Common.{MatchOption, subst}
use Rattle.conformance.specs.Judgement.{IsAnswer, IsCanonical, IsUnstable}
use Rattle.conformance.proofs.judge.judge_command.Goals as goal

pub returns-in-Some : goal.returns-in-Some
returns-in-Some g c =
    let options = c.args.options.now in
    let answer = c.answer_of-answer.result in (
      answer,
      record {
        options = options;
        command = c.requires;
        told = subst (λ input. IsAnswer input options answer.output.items answer.status) c.as_slice.ensures.value c.answer_of-answer.ensures;
        again = subst (λ found. MatchOption found (IsCanonical options answer) (λ _. IsUnstable options answer)) c.in-Some.is c.in_ok-pair.ensures;
      },
    )
