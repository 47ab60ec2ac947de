use Rattle.std.proofs.Common.{◌≡◌, ◌++◌, ◌∷◌, [], ◌∙◌, ap, append-nil, rules, subst, sym}
use Rattle.std.specs.List.{flat_map}
use Rattle.run_record.specs.Told.{event_told}
use Rattle.sdl_report.specs.Gathered.{Breaks, Grows}
use Rattle.sdl_report.specs.ReportText.{event_line, heading_text, line}
use Rattle.sdl_report.proofs.GatheredLemmas.{Breaks-before, Breaks-now, Breaks-onward, Grows-onward, OnErr-any, all-behind, all-onward}
use Rattle.sdl_report.proofs.report_text.write_record.Goals as goal

pub returns-in_err-push_heading-clause-err : goal.returns-in_err-push_heading-clause-err
returns-in_err-push_heading-clause-err g c =
    let head = heading_text c.args.names.now c.args.record.now in
    let held = g.W.Write.contents c.args.writer.now in
    OnErr-any c.from_residual.result
    (Breaks-before held held c.args.page.now (line head) (flat_map (event_line c.args.names.now c.args.record.now) c.args.record.now.events)
    (Breaks-now held c.args.page.now head))

pub returns-in_err-push-clause-err : goal.returns-in_err-push-clause-err
returns-in_err-push-clause-err g c =
    let head = line (heading_text c.args.names.now c.args.record.now) in
    let held = g.W.Write.contents c.args.writer.now in
    let after = g.W.Write.contents c.push.new.writer in
    OnErr-any c.from_residual-in_err-push.result
    (Breaks-before held after c.args.page.now head (flat_map (event_line c.args.names.now c.args.record.now) c.args.record.now.events)
    (subst (Breaks held c.args.page.now after)
    (c.as_str.ensures.value ∙ c.in_ok-push_heading.ensures
    ∙ ap (λ l. l ++ line (heading_text c.system.result.now c.args.record.now)) c.clear.ensures.bytes
    ∙ ap (λ s. line (heading_text s c.args.record.now)) c.system.ensures)
    c.in_err-push.ensures.err))

pub loop-told-init : goal.loop-told-init
loop-told-init g c =
    let head = line (heading_text c.args.names.now c.args.record.now) in
    let held = g.W.Write.contents c.args.writer.now in
    let after = g.W.Write.contents c.push.new.writer in
    let read : c.into_iter-told-iterator.result ≡ c.args.record.now.events = search rules in (
      [],
      sym read,
      subst (Grows held c.args.page.now after c.push.new.self)
          (c.as_str.ensures.value ∙ c.in_ok-push_heading.ensures
          ∙ ap (λ l. l ++ line (heading_text c.system.result.now c.args.record.now)) c.clear.ensures.bytes
          ∙ ap (λ s. line (heading_text s c.args.record.now)) c.system.ensures
          ∙ sym (append-nil head))
          c.in_ok-push.ensures.ok,
    )

pub returns-in_err-write_event-clause-err : goal.returns-in_err-write_event-clause-err
returns-in_err-write_event-clause-err g c =
    let head = line (heading_text c.args.names.now c.args.record.now) in
    let f = event_line c.args.names.now c.args.record.now in
    let done = c.loop-told.invariant.0 in
    let one = event_told c.in-Some.told in
    OnErr-any c.from_residual-in_err-write_event.result
    (subst
    (λ l. Breaks (g.W.Write.contents c.args.writer.now) c.args.page.now
    (g.W.Write.contents c.write_event.new.writer) (head ++ flat_map f l))
    (sym (c.loop-told.invariant.1 ∙ ap (λ l. done ++ l) c.in-Some.ensures.steps))
    (Breaks-onward f head done c.next.new.self one _ _ _ _ _ c.loop-told.invariant.2 c.in_err-write_event.ensures.err))

pub loop-told-preserved : goal.loop-told-preserved
loop-told-preserved g c =
    let head = line (heading_text c.args.names.now c.args.record.now) in
    let f = event_line c.args.names.now c.args.record.now in
    let done = c.loop-told.invariant.0 in
    let one = event_told c.in-Some.told in (
      done ++ one ∷ [],
      all-onward f head done c.next.new.self one _ _ c.loop-told.invariant.1 c.in-Some.ensures.steps,
      Grows-onward f head done c.next.new.self one _ _ _ _ _ _ c.loop-told.invariant.2 c.in_ok-write_event.ensures.ok,
    )

pub returns-clause-ok : goal.returns-clause-ok
returns-clause-ok g c =
    let head = line (heading_text c.args.names.now c.args.record.now) in
    let f = event_line c.args.names.now c.args.record.now in
    subst
    (λ l. Grows (g.W.Write.contents c.args.writer.now) c.args.page.now
    (g.W.Write.contents c.loop-told.writer) c.loop-told.page (head ++ flat_map f l))
    (all-behind _ _ _ c.loop-told.invariant.1 c.in-None.ensures.steps.0)
    c.loop-told.invariant.2
