use Rattle.std.proofs.Common.{ap, subst, sym}
use Rattle.std.proofs.lemmas.Result.{IfErr-weaker, IfOk-weaker, err_from_is_err_and}
use Rattle.sdl_interp.proofs.First.{cannot_take, fails_refused, fails_unselected}
use Rattle.sdl_interp.proofs.Recorded.{roomy_is}
use Rattle.sdl_interp.specs.Selected.{CannotSelect}
use Rattle.sdl_interp.specs.Stimulus.{AnswersWrong, Reacts, ReactsWrong, Responds, RespondsWrong, Took}
use Rattle.run_record.specs.declared.failure.Failure.{Failure}
use Rattle.run_semantics.specs.ControlPoint.{Definition}
use Rattle.run_semantics.specs.Goes.{MachineValue}
use Rattle.sdl_interp.proofs.Staying.{amid_roomier}
use Rattle.sdl_interp.specs.Machine.{identity_of, value_of}
use Rattle.sdl_interp.specs.Running.{seen}
use Rattle.sdl_interp.specs.Work.{IsOf}
use Rattle.sdl_interp.specs.declared.transitions.machine.Machine.{Machine}
use Rattle.sdl_interp.proofs.stimulus.take_by.Goals as goal

pub returns-in_err-make_room-clause-same : goal.returns-in_err-make_room-clause-same
returns-in_err-make_room-clause-same g c =
    (amid_roomier g.P.Inbox.owning g.P.Inbox.since c.args.core.now c.make_room.new.machine _ _ c.make_room.ensures.same
    c.make_room.ensures.kept c.requires.going).same

pub returns-in_err-make_room-clause-going : goal.returns-in_err-make_room-clause-going
returns-in_err-make_room-clause-going g c =
    let q = err_from_is_err_and c.from_residual.result c.from_residual.ensures.1 in
    rw q.1 (amid_roomier g.P.Inbox.owning g.P.Inbox.since c.args.core.now c.make_room.new.machine _ _
    c.make_room.ensures.same c.make_room.ensures.kept c.requires.going).going

pub returns-in_err-make_room-clause-err : goal.returns-in_err-make_room-clause-err
returns-in_err-make_room-clause-err g c =
    let q = err_from_is_err_and c.from_residual.result c.from_residual.ensures.1 in
    let k = seen g.P.Inbox.owning g.P.Inbox.since c.args.core.now in
    let m = k.work in
    let x : Machine = c.make_room.new.machine in
    let why = c.in_err-make_room.field-0.0 in
    let w = g.W.World.value c.args.world.now in
    let state = c.args.state in
    rw (q.1, q.2) (λ d is.
    let cannot : CannotSelect d m.who m.owner.state state m.store why =
    subst (λ (y : Failure). CannotSelect d m.who m.owner.state state m.store y) (sym c.in_err-make_room.ensures.err)
    (cannot_take d m.who m.owner.state state m.store c.args.selection.now
    (c.requires.selects d is state c.requires.table)) in
    subst (λ (y : MachineValue). AnswersWrong d state m w y w why)
    (sym (roomy_is m.owner c.args.core.now.machine x x.trace.room x.trace.values_room c.make_room.ensures.same))
    (fails_unselected d state m w why cannot c.requires.going.alive))

pub returns-in-Ok-clause-ok : goal.returns-in-Ok-clause-ok
returns-in-Ok-clause-ok g c =
    let k = seen g.P.Inbox.owning g.P.Inbox.since c.args.core.now in
    let mid : MachineValue = value_of c.make_room.new.machine (g.P.Inbox.owning c.take.new.self) in
    let n = seen g.P.Inbox.owning g.P.Inbox.since c.react.new.core in
    let w = g.W.World.value c.args.world.now in
    let v = g.W.World.value c.react.new.world in
    let state = c.args.state in
    let took : (d : Definition) → IsOf k.system k.process d → Took d state k.work mid c.args.selection.now
    c.in-Ok.taken =
    λ d is. record {
      selecting = c.requires.selects d is state c.requires.table;
      takes = c.in-Ok.ensures.take;
      who = ap (λ (y : Machine). identity_of y.trace) c.make_room.ensures.same;
      store = ap (λ (y : Machine). y.store) c.make_room.ensures.same;
      events = ap (λ (y : Machine). y.trace.events) c.make_room.ensures.same;
      alive = c.requires.going.alive;
    } in
    IfOk-weaker c.react.result (λ to. Reacts k.system k.process state c.in-Ok.taken mid w to n.work v)
    (λ to. Responds k.system k.process state k.work w to n.work v)
    (λ to reacts d is. reacts d is k.work c.args.selection.now (took d is)) c.react.ensures.ok

pub returns-in-Ok-clause-err : goal.returns-in-Ok-clause-err
returns-in-Ok-clause-err g c =
    let k = seen g.P.Inbox.owning g.P.Inbox.since c.args.core.now in
    let mid : MachineValue = value_of c.make_room.new.machine (g.P.Inbox.owning c.take.new.self) in
    let n = seen g.P.Inbox.owning g.P.Inbox.since c.react.new.core in
    let w = g.W.World.value c.args.world.now in
    let v = g.W.World.value c.react.new.world in
    let state = c.args.state in
    let took : (d : Definition) → IsOf k.system k.process d → Took d state k.work mid c.args.selection.now
    c.in-Ok.taken =
    λ d is. record {
      selecting = c.requires.selects d is state c.requires.table;
      takes = c.in-Ok.ensures.take;
      who = ap (λ (y : Machine). identity_of y.trace) c.make_room.ensures.same;
      store = ap (λ (y : Machine). y.store) c.make_room.ensures.same;
      events = ap (λ (y : Machine). y.trace.events) c.make_room.ensures.same;
      alive = c.requires.going.alive;
    } in
    IfErr-weaker c.react.result (λ why. ReactsWrong k.system k.process state c.in-Ok.taken mid w n.work v why)
    (λ why. RespondsWrong k.system k.process state k.work w n.work v why)
    (λ why reacts d is. reacts d is k.work c.args.selection.now (took d is)) c.react.ensures.err

pub returns-in-Err-clause-err : goal.returns-in-Err-clause-err
returns-in-Err-clause-err g c = λ d is.
    let k = seen g.P.Inbox.owning g.P.Inbox.since c.args.core.now in
    fails_refused d c.args.state k.work (value_of c.make_room.new.machine (g.P.Inbox.owning c.take.new.self))
    (g.W.World.value c.args.world.now) c.args.selection.now
    (c.requires.selects d is c.args.state c.requires.table) c.in-Err.ensures.take.1 c.requires.going.alive
    (ap (λ (y : Machine). identity_of y.trace) c.make_room.ensures.same)
    (ap (λ (y : Machine). y.store) c.make_room.ensures.same)
    (ap (λ (y : Machine). y.trace.events) c.make_room.ensures.same)
