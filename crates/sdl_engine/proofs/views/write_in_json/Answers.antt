use Rattle.std.proofs.Common.{◌∙◌, ap, map}
use Rattle.std.proofs.lemmas.Result.{err_from_is_err_and}
use Rattle.view_text.specs.JsonText.{json_text}
use Rattle.view_text.specs.Sending.{sending_value}
use Rattle.sdl_engine.specs.declared.options.View.TheVariants as views
use Rattle.sdl_engine.proofs.AnswerLaws.{view_fails}
use Rattle.sdl_engine.proofs.views.write_in_json.Goals as goal

pub returns-in_err-write_json-clause-err : goal.returns-in_err-write_json-clause-err
returns-in_err-write_json-clause-err g c =
    let p = err_from_is_err_and c.from_residual-in_err-write_json.result c.from_residual-in_err-write_json.ensures.1 in
    let run = c.args.run.now in
    let order = c.in_ok-order.order in
    let text_of = json_text run.system run.report order.told order.stuck in
    rw (p.1, p.2) (view_fails _ views.Json run.log run.system run.report run.script.lines.items order.stuck
    (text_of (map sending_value c.deref.result.now)) _ _
    (record {
      told = order.told;
      is_order = c.in_ok-order.ensures.told;
      says = ap (λ lost. text_of (map sending_value lost)) c.deref.ensures.value
          ∙ ap text_of c.in_ok-order.ensures.lost;
    })
    c.in_err-write_json.ensures.err)

pub returns-clause-ok : goal.returns-clause-ok
returns-clause-ok g c =
    let run = c.args.run.now in
    let order = c.in_ok-order.order in
    let text_of = json_text run.system run.report order.told order.stuck in
    record {
      text = text_of (map sending_value c.deref.result.now);
      says = record {
        told = order.told;
        is_order = c.in_ok-order.ensures.told;
        says = ap (λ lost. text_of (map sending_value lost)) c.deref.ensures.value
            ∙ ap text_of c.in_ok-order.ensures.lost;
      };
      out = c.in_ok-write_json.ensures.ok;
    }
