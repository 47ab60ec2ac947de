use Rattle.std.proofs.Common.{◌≡◌, [], ◌∙◌, ap, drop, subst, arith}
use Rattle.std.proofs.lemmas.List.{take_all}
use Rattle.std.proofs.lemmas.Result.{on_err_weaker, on_ok_weaker}
use Rattle.std.specs.List.{flat_map}
use Rattle.sdl_report.specs.Gathered.{Breaks, Grows}
use Rattle.sdl_report.specs.ReportText.{record_text, rest_text, end_text, line}
use Rattle.sdl_report.proofs.GatheredLemmas.{Appends-after, Breaks-after, Breaks-before, Breaks-inside, Breaks-none, Breaks-prefix, Grows-gathered, Grows-more, OnErr-any}
use Rattle.sdl_report.proofs.report_text.write_rest.Goals as goal

pub returns-in_err-names-clause-err : goal.returns-in_err-names-clause-err
returns-in_err-names-clause-err g c =
    let held = g.W.Write.contents c.args.writer.now in
    OnErr-any c.from_residual.result
    (Breaks-prefix held held (rest_text c.args.system.now c.args.report.now c.args.written)
    (Breaks-none held (flat_map (record_text c.args.system.now) (drop c.args.written c.args.report.now.records.items))
    (end_text c.args.report.now)))

pub returns-in_err-page-clause-err : goal.returns-in_err-page-clause-err
returns-in_err-page-clause-err g c =
    let held = g.W.Write.contents c.args.writer.now in
    OnErr-any c.from_residual-in_err-page.result
    (Breaks-prefix held held (rest_text c.args.system.now c.args.report.now c.args.written)
    (Breaks-none held (flat_map (record_text c.args.system.now) (drop c.args.written c.args.report.now.records.items))
    (end_text c.args.report.now)))

pub loop-record-init : goal.loop-record-init
loop-record-init g c = Grows-gathered (g.W.Write.contents c.args.writer.now) [] _ [] c.in_ok-page.ensures

pub returns-in_err-write_record-clause-err : goal.returns-in_err-write_record-clause-err
returns-in_err-write_record-clause-err g c =
    let f = record_text c.args.system.now in
    let rest = drop c.args.written c.args.report.now.records.items in
    let list : c.split_at.result.1.now ≡ rest = c.split_at.ensures.back ∙ ap (drop c.args.written) c.deref.ensures.value in
    let held = g.W.Write.contents c.args.writer.now in
    let held' = g.W.Write.contents c.write_record.new.writer in
    let end = line (end_text c.args.report.now) in
    OnErr-any c.from_residual-in_err-write_record.result
    (Breaks-prefix held held' (rest_text c.args.system.now c.args.report.now c.args.written)
    (Breaks-before held held' [] (flat_map f rest) end
    (subst (λ l. Breaks held [] held' (flat_map f l)) list
    (Breaks-inside f [] c.split_at.result.1.now c.loop-record.record-index c.record-item.result c.loop-record-test.true c.record-item.is
    held (g.W.Write.contents c.loop-record.writer) held' [] c.loop-record.page
    c.loop-record.invariant
    (subst (λ s. Breaks (g.W.Write.contents c.loop-record.writer) c.loop-record.page held' (record_text s c.record-item.result))
    c.in_ok-names.ensures c.in_err-write_record.ensures.err)))))

pub loop-record-preserved : goal.loop-record-preserved
loop-record-preserved g c =
    Grows-more (record_text c.args.system.now) [] c.split_at.result.1.now c.loop-record.record-index c.record-item.result c.loop-record-test.true c.record-item.is
    (g.W.Write.contents c.args.writer.now) (g.W.Write.contents c.loop-record.writer) (g.W.Write.contents c.write_record.new.writer)
    [] c.loop-record.page c.write_record.new.page
    c.loop-record.invariant
    (subst
    (λ s. Grows (g.W.Write.contents c.loop-record.writer) c.loop-record.page (g.W.Write.contents c.write_record.new.writer)
    c.write_record.new.page (record_text s c.record-item.result))
    c.in_ok-names.ensures c.in_ok-write_record.ensures.ok)

pub returns-clause-ok : goal.returns-clause-ok
returns-clause-ok g c =
    let f = record_text c.args.system.now in
    let rest = drop c.args.written c.args.report.now.records.items in
    let list : c.split_at.result.1.now ≡ rest = c.split_at.ensures.back ∙ ap (drop c.args.written) c.deref.ensures.value in
    let held = g.W.Write.contents c.args.writer.now in
    let held' = g.W.Write.contents c.loop-record.writer in
    let sent = g.W.Write.contents c.write_end.new.writer in
    let end = line (end_text c.args.report.now) in
    let body : Grows held [] held' c.loop-record.page (flat_map f rest) =
    subst (λ l. Grows held [] held' c.loop-record.page (flat_map f l)) (take_all c.loop-record.record-index c.split_at.result.1.now (omega arith) ∙ list) c.loop-record.invariant in
    on_ok_weaker c.write_end.result (Appends-after held held' sent c.loop-record.page (flat_map f rest) end body) c.write_end.ensures.ok

pub returns-clause-err : goal.returns-clause-err
returns-clause-err g c =
    let f = record_text c.args.system.now in
    let rest = drop c.args.written c.args.report.now.records.items in
    let list : c.split_at.result.1.now ≡ rest = c.split_at.ensures.back ∙ ap (drop c.args.written) c.deref.ensures.value in
    let held = g.W.Write.contents c.args.writer.now in
    let held' = g.W.Write.contents c.loop-record.writer in
    let sent = g.W.Write.contents c.write_end.new.writer in
    let end = line (end_text c.args.report.now) in
    let all = rest_text c.args.system.now c.args.report.now c.args.written in
    let body : Grows held [] held' c.loop-record.page (flat_map f rest) =
    subst (λ l. Grows held [] held' c.loop-record.page (flat_map f l)) (take_all c.loop-record.record-index c.split_at.result.1.now (omega arith) ∙ list) c.loop-record.invariant in
    on_err_weaker c.write_end.result
    (λ (b : Breaks held' c.loop-record.page sent end).
    Breaks-prefix held sent all (Breaks-after held held' sent [] c.loop-record.page (flat_map f rest) end body b))
    c.write_end.ensures.err
