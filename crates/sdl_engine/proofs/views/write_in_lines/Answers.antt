use Rattle.std.proofs.Common.{◌∙◌, ap, map}
use Rattle.std.proofs.lemmas.Result.{err_from_is_err_and}
use Rattle.view_text.specs.LinesText.{lines_text}
use Rattle.view_text.specs.Sending.{sending_value}
use Rattle.sdl_engine.specs.declared.options.View.TheVariants as views
use Rattle.sdl_engine.specs.Views.{signals_of}
use Rattle.sdl_engine.proofs.AnswerLaws.{view_fails}
use Rattle.sdl_engine.proofs.views.write_in_lines.Goals as goal

pub returns-in_err-write_lines-clause-err : goal.returns-in_err-write_lines-clause-err
returns-in_err-write_lines-clause-err g c =
    let p = err_from_is_err_and c.from_residual-in_err-write_lines.result c.from_residual-in_err-write_lines.ensures.1 in
    let run = c.args.run.now in
    let order = c.in_ok-order.order in
    let text_of = lines_text run.system run.report order.told order.stuck in
    let sent = signals_of run.script.lines.items in
    let lost = map sending_value c.deref.result.now in
    rw (p.1, p.2) (view_fails _ views.Lines run.log run.system run.report run.script.lines.items order.stuck
    (text_of c.signals_of.result lost) _ _
    (record {
      told = order.told;
      is_order = c.in_ok-order.ensures.told;
      says = ap (λ n. text_of n lost) c.signals_of.ensures
          ∙ ap (λ l. text_of sent (map sending_value l)) c.deref.ensures.value
          ∙ ap (text_of sent) c.in_ok-order.ensures.lost;
    })
    c.in_err-write_lines.ensures.err)

pub returns-clause-ok : goal.returns-clause-ok
returns-clause-ok g c =
    let run = c.args.run.now in
    let order = c.in_ok-order.order in
    let text_of = lines_text run.system run.report order.told order.stuck in
    let sent = signals_of run.script.lines.items in
    let lost = map sending_value c.deref.result.now in
    record {
      text = text_of c.signals_of.result lost;
      says = record {
        told = order.told;
        is_order = c.in_ok-order.ensures.told;
        says = ap (λ n. text_of n lost) c.signals_of.ensures
            ∙ ap (λ l. text_of sent (map sending_value l)) c.deref.ensures.value
            ∙ ap (text_of sent) c.in_ok-order.ensures.lost;
      };
      out = c.in_ok-write_lines.ensures.ok;
    }
