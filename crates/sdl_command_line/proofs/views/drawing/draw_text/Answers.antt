use Rattle.std.proofs.Common.{◌∙◌, ap, map, subst}
use Rattle.std.proofs.lemmas.Result.{err_from_is_err_and}
use Rattle.std.specs.Io.KnownBytes.{Appends}
use Rattle.sdl_report.specs.Gathered.{BreaksOff}
use Rattle.view_text.specs.MscText.{msc_text}
use Rattle.view_text.specs.Sending.{sending_value}
use Rattle.sdl_command_line.proofs.DrawnLaws.{text_drawn, text_fails}
use Rattle.sdl_command_line.proofs.views.drawing.draw_text.Goals as goal

pub returns-in_err-write_msc-clause-err : goal.returns-in_err-write_msc-clause-err
returns-in_err-write_msc-clause-err g c =
    let p = err_from_is_err_and c.from_residual-in_err-write_msc.result c.from_residual-in_err-write_msc.ensures.1 in
    let run = c.args.run.now in
    let order = c.in_ok-order.order in
    let lost = map sending_value c.deref.result.now in
    rw (p.1, p.2) (text_fails _ run order.stuck order.told lost _ _ c.in_ok-order.ensures.told
    (ap (map sending_value) c.deref.ensures.value ∙ c.in_ok-order.ensures.lost)
    (subst (λ name. BreaksOff (g.W.Write.contents c.args.writer.now) (g.W.Write.contents c.write_msc.new.writer)
    (msc_text name run.system order.told order.stuck lost run.report)) c.name-name.ensures
    c.in_err-write_msc.ensures.err))

pub returns-clause-ok : goal.returns-clause-ok
returns-clause-ok g c =
    let run = c.args.run.now in
    let order = c.in_ok-order.order in
    let lost = map sending_value c.deref.result.now in
    text_drawn run order.stuck order.told lost _ _ c.in_ok-order.ensures.told
    (ap (map sending_value) c.deref.ensures.value ∙ c.in_ok-order.ensures.lost)
    (subst (λ name. Appends (g.W.Write.contents c.args.writer.now) (g.W.Write.contents c.write_msc.new.writer)
    (msc_text name run.system order.told order.stuck lost run.report)) c.name-name.ensures
    c.in_ok-write_msc.ensures.ok)
