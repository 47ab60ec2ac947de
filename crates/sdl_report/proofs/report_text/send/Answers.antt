use Rattle.std.proofs.Common.{subst}
use Rattle.sdl_report.specs.Gathered.{BreaksOff}
use Rattle.sdl_report.proofs.GatheredLemmas.{Breaks-part, OnErr-any}
use Rattle.sdl_report.proofs.report_text.send.Goals as goal

pub returns-in_err-write_text-clause-err : goal.returns-in_err-write_text-clause-err
returns-in_err-write_text-clause-err g c =
    OnErr-any c.from_residual.result
    (Breaks-part _ _ _
    (subst (BreaksOff (g.W.Write.contents c.args.writer.now) (g.W.Write.contents c.write_text.new.writer))
    c.as_bytes.ensures.value c.in_err-write_text.ensures.err))
