use Rattle.std.proofs.Common.{◌≡◌, ◌++◌, ◌∷◌, [], ◌∙◌, ap, append-nil, rules, subst, sym}
use Rattle.std.proofs.lemmas.Result.{on_err_weaker, on_ok_weaker}
use Rattle.std.specs.Io.KnownBytes.{Appends}
use Rattle.sdl_report.proofs.GatheredLemmas.{Breaks-after, Breaks-onward, Breaks-prefix, Grows-gathered, Grows-onward, Grows-sent, OnErr-any, all-behind, all-onward}
use Rattle.sdl_report.specs.Gathered.{Breaks, BreaksOff}
use Rattle.sdl_report.specs.Lines.{line_text, line_told, lines_text}
use Rattle.sdl_report.proofs.workers.stretch.write_lines.Goals as goal

pub loop-one-init : goal.loop-one-init
loop-one-init g c =
    let same : c.into_iter-one-iterator.result ≡ c.args.lines = search rules in (
      [],
      sym same,
      Grows-gathered (g.W.Write.contents c.args.writer.now) [] c.args.page.now [] c.requires,
    )

pub returns-in_err-write_line-clause-err : goal.returns-in_err-write_line-clause-err
returns-in_err-write_line-clause-err g c =
    let f = line_text c.args.names.now in
    let done = c.loop-one.invariant.0 in
    let one = line_told c.in-Some.one in
    let held = g.W.Write.contents c.args.writer.now in
    let held' = g.W.Write.contents c.write_line.new.writer in
    OnErr-any c.from_residual.result
    (Breaks-prefix held held' (lines_text c.args.names.now c.args.lines)
    (subst (λ l. Breaks held [] held' (lines_text c.args.names.now l))
    (sym (c.loop-one.invariant.1 ∙ ap (λ l. done ++ l) c.in-Some.ensures.steps))
    (Breaks-onward f [] done c.next.new.self one held (g.W.Write.contents c.loop-one.writer) held' [] c.loop-one.page
    c.loop-one.invariant.2 c.in_err-write_line.ensures.err)))

pub loop-one-preserved : goal.loop-one-preserved
loop-one-preserved g c =
    let f = line_text c.args.names.now in
    let done = c.loop-one.invariant.0 in
    let one = line_told c.in-Some.one in (
      done ++ one ∷ [],
      all-onward f [] done c.next.new.self one _ _ c.loop-one.invariant.1 c.in-Some.ensures.steps,
      Grows-onward f [] done c.next.new.self one (g.W.Write.contents c.args.writer.now)
          (g.W.Write.contents c.loop-one.writer) (g.W.Write.contents c.write_line.new.writer) [] c.loop-one.page
          c.write_line.new.page c.loop-one.invariant.2 c.in_ok-write_line.ensures.ok,
    )

pub returns-clause-ok : goal.returns-clause-ok
returns-clause-ok g c =
    let text = lines_text c.args.names.now in
    let done = c.loop-one.invariant.0 in
    let held = g.W.Write.contents c.args.writer.now in
    let held' = g.W.Write.contents c.loop-one.writer in
    let sent = g.W.Write.contents c.send.new.writer in
    on_ok_weaker c.send.result
    (λ (out : Appends held' sent c.loop-one.page).
    subst (λ l. Appends held sent (text l)) (all-behind _ _ _ c.loop-one.invariant.1 c.in-None.ensures.steps.0)
    (Grows-sent held held' sent [] c.loop-one.page (text done) c.loop-one.invariant.2 out))
    c.send.ensures.sent

pub returns-clause-err : goal.returns-clause-err
returns-clause-err g c =
    let text = lines_text c.args.names.now in
    let done = c.loop-one.invariant.0 in
    let held = g.W.Write.contents c.args.writer.now in
    let held' = g.W.Write.contents c.loop-one.writer in
    let sent = g.W.Write.contents c.send.new.writer in
    on_err_weaker c.send.result
    (λ (off : Breaks held' c.loop-one.page sent []).
    subst (λ l. BreaksOff held sent (text l)) (all-behind _ _ _ c.loop-one.invariant.1 c.in-None.ensures.steps.0)
    (Breaks-prefix held sent (text done)
    (subst (Breaks held [] sent) (append-nil (text done))
    (Breaks-after held held' sent [] c.loop-one.page (text done) [] c.loop-one.invariant.2 off))))
    c.send.ensures.err
