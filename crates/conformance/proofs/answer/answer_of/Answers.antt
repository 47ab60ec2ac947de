use Rattle.conformance.proofs.AnswerLaws.{is_answer}
use Rattle.conformance.proofs.answer.answer_of.Goals as goal

pub returns : goal.returns
returns g c =
    is_answer c.args.input.now _ c.run_text-outcome.new.writer.items c.args.options.now c.status_of-status.result
    c.run_text-outcome.result c.new-output.ensures.items c.status_of-status.ensures c.run_text-outcome.ensures.ok
    c.run_text-outcome.ensures.err
