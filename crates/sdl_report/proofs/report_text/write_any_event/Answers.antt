use Rattle.std.proofs.Common.{◌++◌, ◌∙◌, ap, subst}
use Rattle.run_record.specs.Entry.{event_of}
use Rattle.sdl_report.specs.Gathered.{Breaks, Grows}
use Rattle.sdl_report.specs.ReportText.{event_line}
use Rattle.sdl_report.proofs.GatheredLemmas.{Breaks-now, OnErr-any}
use Rattle.sdl_report.proofs.report_text.write_any_event.Goals as goal

pub returns-in_err-push_event-clause-err : goal.returns-in_err-push_event-clause-err
returns-in_err-push_event-clause-err g c = OnErr-any c.from_residual.result (Breaks-now _ _ _)

pub returns-in_err-push-clause-err : goal.returns-in_err-push-clause-err
returns-in_err-push-clause-err g c =
    let bytes = event_line c.args.system.now c.args.record.now (event_of c.args.entry.now c.args.values.now) in
    OnErr-any c.from_residual-in_err-push.result
    (subst (Breaks (g.W.Write.contents c.args.writer.now) c.args.page.now (g.W.Write.contents c.push.new.writer))
    (c.as_str.ensures.value ∙ c.in_ok-push_event.ensures ∙ ap (λ l. l ++ bytes) c.clear.ensures.bytes)
    c.in_err-push.ensures.err)

pub returns-clause-ok : goal.returns-clause-ok
returns-clause-ok g c =
    let bytes = event_line c.args.system.now c.args.record.now (event_of c.args.entry.now c.args.values.now) in
    subst (Grows (g.W.Write.contents c.args.writer.now) c.args.page.now (g.W.Write.contents c.push.new.writer) c.push.new.self)
    (c.as_str.ensures.value ∙ c.in_ok-push_event.ensures ∙ ap (λ l. l ++ bytes) c.clear.ensures.bytes)
    c.in_ok-push.ensures.ok
