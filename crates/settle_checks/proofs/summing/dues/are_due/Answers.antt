-- The event is one more.
use Rattle.std.proofs.Common.{◌≡◌, rules, sym}
use Rattle.run_record.specs.Told.{event_told}
use Rattle.settle_checks.proofs.DueLemmas.{due_all, due_next, due_none}
use Rattle.settle_checks.proofs.summing.dues.are_due.Goals as goal

pub loop-told-init : goal.loop-told-init
loop-told-init c =
    let read : c.into_iter-told-iterator.result ≡ c.args.trace.now.events = search rules in
    due_none c.args.trace.now.events c.into_iter-told-iterator.result c.new-dues.result (sym read) c.new-dues.ensures

pub loop-told-preserved : goal.loop-told-preserved
loop-told-preserved c =
    let far = c.loop-told.invariant in
    due_next c.args.trace.now.events c.loop-told.told-iterator c.next.new.self (event_told c.in-Some.told)
    c.loop-told.dues c.note.new.self c.in-Some.ensures.steps far
    (c.in_ok-is_due.ensures c.if-not-is_due.false far.done far.times_are)

pub returns : goal.returns
returns c =
    λ _. due_all c.args.trace.now.events c.loop-told.told-iterator c.loop-told.dues c.in-None.ensures.steps.0
    c.loop-told.invariant
