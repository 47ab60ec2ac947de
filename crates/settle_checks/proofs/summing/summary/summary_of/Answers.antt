-- One event more is summed up.
use Rattle.std.proofs.Common.{◌≡◌, ◌++◌, ◌∷◌, [], List, rules, subst, sym}
use Rattle.run_record.specs.Event.{Event}
use Rattle.run_record.specs.Told.{event_told}
use Rattle.sdl_system.specs.declared.id.ProcessId.{ProcessId}
use Rattle.settle_checks.proofs.SummingLists.{done_all, done_more}
use Rattle.settle_checks.specs.Summary.{IsSummedUp}
use Rattle.settle_checks.proofs.summing.summary.summary_of.Goals as goal

pub loop-told-init : goal.loop-told-init
loop-told-init c =
    let read : c.into_iter-told-iterator.result ≡ c.args.trace.now.events = search rules in
    ([], sym read, c.new-summary.ensures c.process-process.result)

pub loop-told-preserved : goal.loop-told-preserved
loop-told-preserved c =
    let done : List Event = c.loop-told.invariant.0 in
    let one : Event = event_told c.in-Some.told in (
      done ++ one ∷ [],
      done_more done c.next.new.self one _ _ c.loop-told.invariant.1 c.in-Some.ensures.steps,
      c.in_ok-noted.ensures c.if-not-noted.false done c.in-Some.told.values.now c.loop-told.invariant.2,
    )

pub returns : goal.returns
returns c =
    let events : List Event = c.args.trace.now.events in
    let done : List Event = c.loop-told.invariant.0 in
    subst (λ (p : ProcessId). IsSummedUp p events c.loop-told.summary) c.process-process.ensures
    (subst (λ (l : List Event). IsSummedUp c.process-process.result l c.loop-told.summary)
    (done_all done _ _ c.loop-told.invariant.1 c.in-None.ensures.steps.0) c.loop-told.invariant.2)
