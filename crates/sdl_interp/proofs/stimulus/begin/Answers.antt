use Rattle.std.proofs.Common.{ap, subst, refl, Some, List, Option}
use Rattle.port_model.specs.declared.values.value.Value.{Value}
use Rattle.run_record.specs.Event.{values_got}
use Rattle.run_semantics.proofs.Goes.{goes_failed, goes_on, goes_until}
use Rattle.run_semantics.specs.Goes.{AreInner, Goes, GoesWrong}
use Rattle.run_semantics.specs.ControlPoint.{Doing, Ended, Receiving}
use Rattle.sdl_interp.proofs.Staying.{same_counted_on, same_failed}
use Rattle.sdl_interp.specs.Machine.{place_of, value_of}
use Rattle.sdl_interp.specs.Running.{CoreValue, seen}
use Rattle.sdl_system.specs.declared.id.VariableId.{VariableId}
use Rattle.sdl_interp.proofs.stimulus.begin.Goals as goal

pub returns-in-Err-clause-same : goal.returns-in-Err-clause-same
returns-in-Err-clause-same g c =
    let n = seen g.P.Inbox.owning g.P.Inbox.since c.fail.new.self in
    same_counted_on g.P.Inbox.owning g.P.Inbox.since c.args.core.now c.hand_out.new.machine c.hand_out.ensures.trace n
    (same_failed _ n c.in-Err.why c.fail.ensures)

pub returns-in-Err-clause-reached : goal.returns-in-Err-clause-reached
returns-in-Err-clause-reached g c = record { ready = tt; inside = tt; started = λ is. cc }

pub returns-clause-same : goal.returns-clause-same
returns-clause-same g c =
    same_counted_on g.P.Inbox.owning g.P.Inbox.since c.args.core.now c.hand_out.new.machine c.hand_out.ensures.trace
    (seen g.P.Inbox.owning g.P.Inbox.since c.make.new.self) c.make.ensures.same

pub returns-in-Err-clause-begins : goal.returns-in-Err-clause-begins
returns-in-Err-clause-begins g c = λ d is next stands.
    let k = seen g.P.Inbox.owning g.P.Inbox.since c.args.core.now in
    let w = g.W.World.value c.args.world.now in
    let mid = value_of c.hand_out.new.machine k.work.owner in
    let why = c.in-Err.why in
    let from = Receiving (Some c.args.state) c.args.reception.now.variables.items (values_got c.args.got.now) next in
    let wrong : GoesWrong d from k.work w mid w why =
    subst (λ (list : List (Option VariableId)).
    GoesWrong d (Receiving (Some c.args.state) list (values_got c.args.got.now) next) k.work w mid w why)
    c.deref.ensures.value
    (subst (λ (values : List Value).
    GoesWrong d (Receiving (Some c.args.state) c.deref.result.now values next) k.work w mid w why)
    c.values_of-values.ensures
    (c.in-Err.ensures.err d is.behaves.means.variables_are (Some c.args.state) next k.work.owner w)) in
    goes_until d AreInner from Ended k.work _ (seen g.P.Inbox.owning g.P.Inbox.since c.fail.new.self).work w w w
    (ap (λ (x : CoreValue). x.work) c.fail.ensures) refl
    (goes_failed d from k.work mid w w why wrong c.requires.alive)

pub returns-clause-begins : goal.returns-clause-begins
returns-clause-begins g c = λ d is next stands.
    let k = seen g.P.Inbox.owning g.P.Inbox.since c.args.core.now in
    let w = g.W.World.value c.args.world.now in
    let mid = value_of c.hand_out.new.machine k.work.owner in
    let from = Receiving (Some c.args.state) c.args.reception.now.variables.items (values_got c.args.got.now) next in
    let received : Goes AreInner d from k.work w (Doing (Some c.args.state) next) mid w =
    subst (λ (list : List (Option VariableId)).
    Goes AreInner d (Receiving (Some c.args.state) list (values_got c.args.got.now) next) k.work w
    (Doing (Some c.args.state) next) mid w)
    c.deref.ensures.value
    (subst (λ (values : List Value).
    Goes AreInner d (Receiving (Some c.args.state) c.deref.result.now values next) k.work w
    (Doing (Some c.args.state) next) mid w)
    c.values_of-values.ensures
    (c.in_default.ensures.ok d is.behaves.means.variables_are (Some c.args.state) next k.work.owner w)) in
    goes_on d from (Doing (Some c.args.state) next) (place_of c.make.result) k.work mid
    (seen g.P.Inbox.owning g.P.Inbox.since c.make.new.self).work w w (g.W.World.value c.make.new.world) received
    (c.make.ensures.walks d is next stands)
