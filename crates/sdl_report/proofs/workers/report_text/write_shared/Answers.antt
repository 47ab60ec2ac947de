use Rattle.std.proofs.Common.{subst}
use Rattle.std.specs.List.{flat_map}
use Rattle.std.specs.Prelude.{OnErr, OnOk}
use Rattle.std.specs.Io.KnownBytes.{Appends}
use Rattle.sdl_report.proofs.GatheredLemmas.{Breaks-none, Breaks-prefix, OnErr-any}
use Rattle.sdl_report.specs.Gathered.{BreaksOff}
use Rattle.sdl_report.specs.ReportText.{end_text, record_text, report_text}
use Rattle.sdl_report.proofs.LineLemmas.{shared-text}
use Rattle.sdl_report.proofs.workers.report_text.write_shared.Goals as goal

pub returns-in_err-names-clause-err : goal.returns-in_err-names-clause-err
returns-in_err-names-clause-err g c =
    let held = g.W.Write.contents c.args.writer.now in
    OnErr-any c.from_residual.result
    (Breaks-prefix held held (report_text c.args.system.now c.args.report.now)
    (Breaks-none held (flat_map (record_text c.args.system.now) c.args.report.now.records.items)
    (end_text c.args.report.now)))

pub returns-clause-ok : goal.returns-clause-ok
returns-clause-ok g c =
    subst
    (λ l. OnOk c.write_pieces.result
    (Appends (g.W.Write.contents c.args.writer.now) (g.W.Write.contents c.write_pieces.new.writer) l))
    (shared-text _ c.args.system.now c.args.lines c.args.report.now c.in_ok-names.ensures c.requires.lines)
    c.write_pieces.ensures.ok

pub returns-clause-err : goal.returns-clause-err
returns-clause-err g c =
    subst
    (λ l. OnErr c.write_pieces.result
    (BreaksOff (g.W.Write.contents c.args.writer.now) (g.W.Write.contents c.write_pieces.new.writer) l))
    (shared-text _ c.args.system.now c.args.lines c.args.report.now c.in_ok-names.ensures c.requires.lines)
    c.write_pieces.ensures.err
