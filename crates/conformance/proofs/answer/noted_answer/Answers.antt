use Rattle.conformance.proofs.AnswerLaws.{is_answer}
use Rattle.conformance.proofs.answer.noted_answer.Goals as goal

pub returns : goal.returns
returns g c =
    is_answer c.args.input.now _ c.run_and_note-outcome.new.writer.items c.args.options.now c.status_of-status.result
    c.run_and_note-outcome.result c.new-output.ensures.items c.status_of-status.ensures
    c.run_and_note-outcome.ensures.ok c.run_and_note-outcome.ensures.err
