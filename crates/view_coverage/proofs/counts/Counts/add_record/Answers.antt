use Rattle.std.proofs.Common.{◌≡◌, None, ap, arith, rules, sym}
use Rattle.run_record.specs.Told.{event_told}
use Rattle.view_coverage.specs.Coverage.{counted, times, times_from}
use Rattle.view_coverage.proofs.PassLemmas.{times-step}
use Rattle.view_coverage.proofs.counts.Counts.add_record.Goals as goal

pub loop-told-preserved : goal.loop-told-preserved
loop-told-preserved c = λ point.
    times-step c.process-process.result c.loop-told.told-iterator c.next.new.self (event_told c.in-Some.told)
    c.loop-told.state
    c.state_after-state.result c.point_of.result (counted c.loop-told.self point) (counted c.add_passed.new.self point)
    _ point c.in-Some.ensures.steps c.point_of.ensures c.state_after-state.ensures
    (c.in_ok-add_passed.ensures point) (c.loop-told.invariant point)

pub returns : goal.returns
returns c = λ point.
    let process = c.process-process.result in
    let events = c.args.record.now.events in
    let all = c.loop-told.invariant point in
    let none : times_from process c.loop-told.state c.loop-told.told-iterator point ≡ 0 =
    ap (λ l. times_from process c.loop-told.state l point) c.in-None.ensures.steps.0 in
    let read : c.into_iter-told-iterator.result ≡ events = search rules in
    let whole : times_from process None c.into_iter-told-iterator.result point ≡ times_from process None events point =
    ap (λ l. times_from process None l point) read in
    let own : times c.args.record.now point ≡ times_from process None events point =
    ap (λ p. times_from p None events point) (sym c.process-process.ensures) in
    omega arith
