use Rattle.std.proofs.Common.{◌≡◌, ◌++◌, [], ◌∙◌, ap, refl, rules, subst}
use Rattle.std.proofs.KnownBytes.{Appends-nil, Appends-trans}
use Rattle.std.proofs.lemmas.Result.{on_err_weaker, on_ok_weaker}
use Rattle.std.specs.Io.KnownBytes.{Appends}
use Rattle.sdl_report.proofs.GatheredLemmas.{Breaks-none, Breaks-prefix, OnErr-any}
use Rattle.sdl_report.specs.Gathered.{BreaksOff}
use Rattle.sdl_report.specs.ReportText.{end_text, line}
use Rattle.sdl_report.proofs.LineLemmas.{breaks-later}
use Rattle.sdl_report.proofs.WorkersPieceLemmas.{all-text, pieces-text-joined, round-breaks, round-lines, round-out}
use Rattle.sdl_report.specs.Lines.{lines_text}
use Rattle.sdl_report.specs.Pieces.{joined, pieces_text}
use Rattle.sdl_report.proofs.workers.report_text.write_pieces.Goals as goal

pub returns-in_err-page-clause-err : goal.returns-in_err-page-clause-err
returns-in_err-page-clause-err g c =
    let held = g.W.Write.contents c.args.writer.now in
    let text = lines_text c.args.names.now c.args.lines in
    OnErr-any c.from_residual.result
    (Breaks-prefix held held (text ++ line (end_text c.args.report.now))
    (Breaks-none held text (end_text c.args.report.now)))

pub rounds-init : goal.rounds-init
rounds-init g c = ([], refl, c.in_ok-page.ensures, Appends-nil (g.W.Write.contents c.args.writer.now))

pub returns-in_err-write_texts-clause-err : goal.returns-in_err-write_texts-clause-err
returns-in_err-write_texts-clause-err g c =
    let names = c.args.names.now in
    let text = lines_text names in
    let own = joined c.cut.new.pieces in
    let is : pieces_text names c.make_texts.new.pieces ≡ text own =
    pieces-text-joined names c.make_texts.new.pieces ∙ ap text c.make_texts.ensures.lines in
    let held = g.W.Write.contents c.args.writer.now in
    let held' = g.W.Write.contents c.rounds.writer in
    let after = g.W.Write.contents c.write_texts.new.writer in
    OnErr-any c.from_residual-in_err-write_texts.result
    (round-breaks names c.args.lines c.rounds.invariant.0 own c.rounds.left c.cut.new.left
    c.rounds.invariant.1 c.cut.ensures.cut held held' after c.rounds.invariant.3
    (line (end_text c.args.report.now)) (subst (BreaksOff held' after) is c.in_err-write_texts.ensures.err))

pub rounds-preserved : goal.rounds-preserved
rounds-preserved g c =
    let names = c.args.names.now in
    let text = lines_text names in
    let own = joined c.cut.new.pieces in
    let is : pieces_text names c.make_texts.new.pieces ≡ text own =
    pieces-text-joined names c.make_texts.new.pieces ∙ ap text c.make_texts.ensures.lines in
    let sent = c.rounds.invariant.0 in
    let before = c.rounds.invariant.1 in
    let held = g.W.Write.contents c.args.writer.now in
    let held' = g.W.Write.contents c.rounds.writer in
    let after = g.W.Write.contents c.write_texts.new.writer in (
      sent ++ own,
      round-lines names c.args.lines sent own c.rounds.left c.cut.new.left before c.cut.ensures.cut,
      c.in_ok-write_texts.ensures.empty,
      round-out names c.args.lines sent own c.rounds.left c.cut.new.left before c.cut.ensures.cut held held' after
          c.rounds.invariant.3 (subst (Appends held' after) is c.in_ok-write_texts.ensures.ok),
    )

pub returns-clause-ok : goal.returns-clause-ok
returns-clause-ok g c =
    let text = lines_text c.args.names.now in
    let end = line (end_text c.args.report.now) in
    let sent = c.rounds.invariant.0 in
    let held = g.W.Write.contents c.args.writer.now in
    let held' = g.W.Write.contents c.rounds.writer in
    let after = g.W.Write.contents c.write_end.new.writer in
    let none : c.rounds.left ≡ [] = search rules in
    on_ok_weaker c.write_end.result
    (λ (out : Appends held' after end).
    subst (λ l. Appends held after (l ++ end))
    (all-text c.args.names.now c.args.lines sent c.rounds.left c.rounds.invariant.1 none)
    (Appends-trans held held' after (text sent) end c.rounds.invariant.3 out))
    c.write_end.ensures.ok

pub returns-clause-err : goal.returns-clause-err
returns-clause-err g c =
    let text = lines_text c.args.names.now in
    let end = line (end_text c.args.report.now) in
    let sent = c.rounds.invariant.0 in
    let held = g.W.Write.contents c.args.writer.now in
    let held' = g.W.Write.contents c.rounds.writer in
    let after = g.W.Write.contents c.write_end.new.writer in
    let none : c.rounds.left ≡ [] = search rules in
    on_err_weaker c.write_end.result
    (λ (off : BreaksOff held' after end).
    subst (λ l. BreaksOff held after (l ++ end))
    (all-text c.args.names.now c.args.lines sent c.rounds.left c.rounds.invariant.1 none)
    (breaks-later held held' after (text sent) end c.rounds.invariant.3 off))
    c.write_end.ensures.err
