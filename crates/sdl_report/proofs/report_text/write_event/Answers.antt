use Rattle.std.proofs.Common.{[], subst}
use Rattle.run_record.specs.Entry.{event_of}
use Rattle.sdl_report.specs.Gathered.{Breaks, Grows}
use Rattle.sdl_report.specs.ReportText.{event_line}
use Rattle.sdl_report.proofs.GatheredLemmas.{Breaks-after, Breaks-before, Grows-gathered, Grows-trans, OnErr-any}
use Rattle.sdl_report.proofs.report_text.write_event.Goals as goal

pub returns-in_err-make_room-clause-err : goal.returns-in_err-make_room-clause-err
returns-in_err-make_room-clause-err g c =
    let bytes = event_line c.args.names.now c.args.record.now (event_of c.args.entry.now c.args.values.now) in
    OnErr-any c.from_residual.result
    (Breaks-before (g.W.Write.contents c.args.writer.now) (g.W.Write.contents c.make_room.new.writer) c.args.page.now [] bytes
    c.in_err-make_room.ensures.err)

pub returns-then-put_event-clause-ok : goal.returns-then-put_event-clause-ok
returns-then-put_event-clause-ok g c =
    let bytes = event_line c.args.names.now c.args.record.now (event_of c.args.entry.now c.args.values.now) in
    let before = g.W.Write.contents c.args.writer.now in
    let held = g.W.Write.contents c.make_room.new.writer in
    Grows-trans before held held c.args.page.now c.make_room.new.self c.put_event.new.self [] bytes
    c.in_ok-make_room.ensures.ok (Grows-gathered held c.make_room.new.self c.put_event.new.self bytes c.if-put_event.ensures.put)

pub returns-in_err-write_any_event-clause-err : goal.returns-in_err-write_any_event-clause-err
returns-in_err-write_any_event-clause-err g c =
    let event = event_of c.args.entry.now c.args.values.now in
    let bytes = event_line c.args.names.now c.args.record.now event in
    let before = g.W.Write.contents c.args.writer.now in
    let held = g.W.Write.contents c.make_room.new.writer in
    let after = g.W.Write.contents c.write_any_event.new.writer in
    OnErr-any c.from_residual-in_err-write_any_event.result
    (Breaks-after before held after c.args.page.now c.make_room.new.self [] bytes c.in_ok-make_room.ensures.ok
    (subst (λ page. Breaks held page after bytes) c.if-put_event.ensures.not_put
    (subst (λ system. Breaks held c.put_event.new.self after (event_line system c.args.record.now event)) c.system.ensures
    c.in_err-write_any_event.ensures.err)))

pub returns-clause-ok : goal.returns-clause-ok
returns-clause-ok g c =
    let event = event_of c.args.entry.now c.args.values.now in
    let bytes = event_line c.args.names.now c.args.record.now event in
    let before = g.W.Write.contents c.args.writer.now in
    let held = g.W.Write.contents c.make_room.new.writer in
    let after = g.W.Write.contents c.write_any_event.new.writer in
    Grows-trans before held after c.args.page.now c.make_room.new.self c.write_any_event.new.page [] bytes
    c.in_ok-make_room.ensures.ok
    (subst (λ page. Grows held page after c.write_any_event.new.page bytes) c.if-put_event.ensures.not_put
    (subst (λ system. Grows held c.put_event.new.self after c.write_any_event.new.page (event_line system c.args.record.now event))
    c.system.ensures c.in_ok-write_any_event.ensures.ok))
