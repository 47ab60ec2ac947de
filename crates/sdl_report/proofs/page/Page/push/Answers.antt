use Rattle.std.proofs.Common.{[], subst}
use Rattle.std.proofs.lemmas.Result.{on_err_weaker, on_ok_weaker}
use Rattle.std.specs.Io.KnownBytes.{Appends}
use Rattle.sdl_report.specs.Gathered.{BreaksOff}
use Rattle.sdl_report.proofs.GatheredLemmas.{Breaks-before, Breaks-past, Grows-past, OnErr-any}
use Rattle.sdl_report.proofs.page.Page.push.Goals as goal

pub returns-in_err-send-clause-err : goal.returns-in_err-send-clause-err
returns-in_err-send-clause-err g c =
    OnErr-any c.from_residual.result
    (Breaks-before (g.W.Write.contents c.args.writer.now) (g.W.Write.contents c.send.new.writer) c.args.self.now []
    c.args.text.now c.in_err-send.ensures.err)

pub returns-then-text-gt-SIZE-clause-ok : goal.returns-then-text-gt-SIZE-clause-ok
returns-then-text-gt-SIZE-clause-ok g c =
    let before = g.W.Write.contents c.args.writer.now in
    let held = g.W.Write.contents c.send.new.writer in
    let after = g.W.Write.contents c.write_text.new.writer in
    on_ok_weaker c.write_text.result
    (λ (past : Appends held after c.as_bytes.result.now).
    Grows-past before held after c.args.self.now c.send.new.self c.args.text.now c.in_ok-send.ensures.sent
    c.in_ok-send.ensures.empty (subst (Appends held after) c.as_bytes.ensures.value past))
    c.write_text.ensures.ok

pub returns-then-text-gt-SIZE-clause-err : goal.returns-then-text-gt-SIZE-clause-err
returns-then-text-gt-SIZE-clause-err g c =
    let before = g.W.Write.contents c.args.writer.now in
    let held = g.W.Write.contents c.send.new.writer in
    let after = g.W.Write.contents c.write_text.new.writer in
    on_err_weaker c.write_text.result
    (λ (past : BreaksOff held after c.as_bytes.result.now).
    Breaks-past before held after c.args.self.now c.args.text.now c.in_ok-send.ensures.sent
    (subst (BreaksOff held after) c.as_bytes.ensures.value past))
    c.write_text.ensures.err
