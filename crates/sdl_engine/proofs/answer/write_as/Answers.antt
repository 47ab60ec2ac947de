use Rattle.std.proofs.Common.{subst}
use Rattle.std.proofs.lemmas.Result.{err_from_is_err_and}
use Rattle.sdl_report.specs.Gathered.{BreaksOff}
use Rattle.sdl_engine.proofs.AnswerLaws.{breaks_off}
use Rattle.sdl_engine.proofs.answer.write_as.Goals as goal

pub returns-in_err-write_text-clause-err : goal.returns-in_err-write_text-clause-err
returns-in_err-write_text-clause-err g c =
    let p = err_from_is_err_and c.from_residual.result c.from_residual.ensures.1 in
    rw (p.1, p.2) (breaks_off _ _ _ _
    (subst (BreaksOff (g.W.Write.contents c.args.writer.now) (g.W.Write.contents c.write_text.new.writer))
    c.as_bytes.ensures.value c.in_err-write_text.ensures.err))
