use Rattle.std.proofs.Common.{[], ◌∷◌, arith}
use Rattle.std.proofs.KnownBytes.{Appends-nil}
use Rattle.std.proofs.lemmas.Result.{on_err_weaker, on_ok_weaker}
use Rattle.std.specs.Io.KnownBytes.{Appends}
use Rattle.sdl_report.specs.Gathered.{BreaksOff}
use Rattle.sdl_report.proofs.GatheredLemmas.{OnErr-any}
use Rattle.view_chart.proofs.picture.html.write_html.Goals as goal

pub returns-in_err-text-clause-err : goal.returns-in_err-text-clause-err
returns-in_err-text-clause-err g c =
    OnErr-any c.from_residual.result
    (10 ∷ [], (0, omega arith, Appends-nil (g.W.Write.contents c.args.writer.now)))

pub returns-clause-ok : goal.returns-clause-ok
returns-clause-ok g c =
    let held = g.W.Write.contents c.args.writer.now in
    let held' = g.W.Write.contents c.write_text.new.writer in
    on_ok_weaker c.write_text.result (λ (out : Appends held held' c.as_bytes.result.now). (c.as_bytes.result.now, out))
    c.write_text.ensures.ok

pub returns-clause-err : goal.returns-clause-err
returns-clause-err g c =
    let held = g.W.Write.contents c.args.writer.now in
    let held' = g.W.Write.contents c.write_text.new.writer in
    on_err_weaker c.write_text.result
    (λ (off : BreaksOff held held' c.as_bytes.result.now). (c.as_bytes.result.now, off)) c.write_text.ensures.err
