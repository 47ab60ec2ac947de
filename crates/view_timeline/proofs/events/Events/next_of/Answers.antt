-- What the cursor says, its record says.
use Rattle.view_timeline.proofs.Nexts.{done-nowhere, done-so, if-none-always, item-read, next-so, no-item}
use Rattle.view_timeline.specs.Events.{IsDone}
use Rattle.view_timeline.proofs.events.Events.next_of.Goals as goal

pub returns-in_err-reached-clause-none : goal.returns-in_err-reached-clause-none
returns-in_err-reached-clause-none c =
    if-none-always c.from_residual.result (IsDone c.args.self.now c.args.place.0)
    (done-nowhere c.args.self.now c.args.place.0
    (no-item c.deref.result.now c.args.self.now.reached.items c.args.place.0 c.deref.ensures.value
    c.in_err-reached.ensures.lookup))

pub returns-clause-next : goal.returns-clause-next
returns-clause-next c =
    let reached = c.in_ok-reached.reached in
    next-so c.args.self.now c.args.place.0 reached.now c.next.result
    (item-read c.deref.result.now c.args.self.now.reached.items c.args.place.0 reached c.deref.ensures.value
    c.in_ok-reached.ensures.lookup)
    c.next.ensures.left c.next.ensures.first c.next.ensures.number c.next.ensures.rest_told
    c.next.ensures.rest_number

pub returns-clause-none : goal.returns-clause-none
returns-clause-none c =
    let reached = c.in_ok-reached.reached in
    done-so c.args.self.now c.args.place.0 reached.now c.next.result
    (item-read c.deref.result.now c.args.self.now.reached.items c.args.place.0 reached c.deref.ensures.value
    c.in_ok-reached.ensures.lookup)
    c.next.ensures.left
