use Rattle.std.proofs.Common.{◌++◌, ◌∙◌, ap, subst}
use Rattle.std.specs.Prelude.{OnErr, OnOk}
use Rattle.sdl_report.proofs.GatheredLemmas.{Breaks-now, OnErr-any}
use Rattle.sdl_report.specs.Gathered.{Breaks, Grows}
use Rattle.sdl_report.specs.ReportText.{heading_text, line}
use Rattle.sdl_report.proofs.workers.line.write_heading.Goals as goal

pub returns-in_err-push_heading-clause-err : goal.returns-in_err-push_heading-clause-err
returns-in_err-push_heading-clause-err g c =
    OnErr-any c.from_residual.result
    (Breaks-now (g.W.Write.contents c.args.writer.now) c.args.page.now
    (heading_text c.args.system.now c.args.record.now))

pub returns-clause-ok : goal.returns-clause-ok
returns-clause-ok g c =
    let bytes = line (heading_text c.args.system.now c.args.record.now) in
    subst
    (λ l. OnOk c.push.result
    (Grows (g.W.Write.contents c.args.writer.now) c.args.page.now (g.W.Write.contents c.push.new.writer)
    c.push.new.self l))
    (c.as_str.ensures.value ∙ c.in_ok-push_heading.ensures ∙ ap (λ l. l ++ bytes) c.clear.ensures.bytes)
    c.push.ensures.ok

pub returns-clause-err : goal.returns-clause-err
returns-clause-err g c =
    let bytes = line (heading_text c.args.system.now c.args.record.now) in
    subst
    (λ l. OnErr c.push.result
    (Breaks (g.W.Write.contents c.args.writer.now) c.args.page.now (g.W.Write.contents c.push.new.writer) l))
    (c.as_str.ensures.value ∙ c.in_ok-push_heading.ensures ∙ ap (λ l. l ++ bytes) c.clear.ensures.bytes)
    c.push.ensures.err
