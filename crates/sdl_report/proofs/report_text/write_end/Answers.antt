use Rattle.std.proofs.Common.{◌++◌, ◌∙◌, [], ap, append-nil, subst}
use Rattle.sdl_report.specs.Gathered.{Breaks, Grows}
use Rattle.sdl_report.specs.ReportText.{end_text, line}
use Rattle.sdl_report.proofs.GatheredLemmas.{Breaks-after, Breaks-now, Grows-sent, OnErr-any}
use Rattle.sdl_report.proofs.report_text.write_end.Goals as goal

pub returns-in_err-push_end-clause-err : goal.returns-in_err-push_end-clause-err
returns-in_err-push_end-clause-err g c = OnErr-any c.from_residual.result
    (Breaks-now (g.W.Write.contents c.args.writer.now) c.args.page.now (end_text c.args.report.now))

pub returns-in_err-push-clause-err : goal.returns-in_err-push-clause-err
returns-in_err-push-clause-err g c =
    let bytes = line (end_text c.args.report.now) in
    OnErr-any c.from_residual-in_err-push.result
    (subst (Breaks (g.W.Write.contents c.args.writer.now) c.args.page.now (g.W.Write.contents c.push.new.writer))
    (c.as_str.ensures.value ∙ c.in_ok-push_end.ensures ∙ ap (λ l. l ++ bytes) c.clear.ensures.bytes)
    c.in_err-push.ensures.err)

pub returns-in_err-send-clause-err : goal.returns-in_err-send-clause-err
returns-in_err-send-clause-err g c =
    let bytes = line (end_text c.args.report.now) in
    let before = g.W.Write.contents c.args.writer.now in
    let held = g.W.Write.contents c.push.new.writer in
    let after = g.W.Write.contents c.send.new.writer in
    let grown : Grows before c.args.page.now held c.push.new.self bytes =
    subst (Grows before c.args.page.now held c.push.new.self)
    (c.as_str.ensures.value ∙ c.in_ok-push_end.ensures ∙ ap (λ l. l ++ bytes) c.clear.ensures.bytes)
    c.in_ok-push.ensures.ok in
    OnErr-any c.from_residual-in_err-send.result
    (subst (Breaks before c.args.page.now after) (append-nil bytes)
    (Breaks-after before held after c.args.page.now c.push.new.self bytes [] grown c.in_err-send.ensures.err))

pub returns-clause-ok : goal.returns-clause-ok
returns-clause-ok g c =
    let bytes = line (end_text c.args.report.now) in
    let before = g.W.Write.contents c.args.writer.now in
    let held = g.W.Write.contents c.push.new.writer in
    let after = g.W.Write.contents c.send.new.writer in
    let grown : Grows before c.args.page.now held c.push.new.self bytes =
    subst (Grows before c.args.page.now held c.push.new.self)
    (c.as_str.ensures.value ∙ c.in_ok-push_end.ensures ∙ ap (λ l. l ++ bytes) c.clear.ensures.bytes)
    c.in_ok-push.ensures.ok in
    Grows-sent before held after c.args.page.now c.push.new.self bytes grown c.in_ok-send.ensures.sent
