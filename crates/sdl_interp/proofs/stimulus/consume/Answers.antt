use Rattle.std.proofs.Common.{◌≡◌, ◌∙◌, sym, ap, subst, refl, Some}
use Rattle.std.proofs.lemmas.Result.{err_from_is_err_and}
use Rattle.port_model.specs.Take as port
use Rattle.port_model.specs.declared.values.item.SignalId.{SignalId}
use Rattle.port_model.specs.declared.taken.Taken.TheVariants.{Consumed}
use Rattle.sdl_interp.proofs.First.{fails_recorded}
use Rattle.sdl_interp.proofs.Reacting.{answers_input, answers_priority}
use Rattle.sdl_interp.proofs.Recorded.{received_is, roomy_is}
use Rattle.sdl_interp.specs.Stimulus.{Took}
use Rattle.run_record.specs.Event as event
use Rattle.run_record.specs.declared.failure.Failure.TheVariants.{Memory}
use Rattle.run_semantics.specs.Goes.{MachineValue}
use Rattle.run_semantics.specs.Reception.{receiving}
use Rattle.sdl_interp.proofs.Staying.{amid_roomier}
use Rattle.sdl_interp.specs.Machine.{identity_of, value_of}
use Rattle.sdl_interp.specs.Running.{seen}
use Rattle.sdl_interp.specs.declared.transitions.machine.Machine.{Machine}
use Rattle.sdl_system.specs.Process.{reaction_in}
use Rattle.sdl_system.specs.declared.state.Reaction.{Reaction}
use Rattle.sdl_system.specs.declared.state.Reaction.TheVariants as react
use Rattle.sdl_interp.proofs.stimulus.consume.Goals as goal

-- ---- what is refused

pub returns-in_err-make_room-clause-same : goal.returns-in_err-make_room-clause-same
returns-in_err-make_room-clause-same g c =
    (amid_roomier g.P.Inbox.owning g.P.Inbox.since c.args.core.now c.make_room.new.machine _ _ c.make_room.ensures.same
    c.make_room.ensures.kept c.requires).same

pub returns-in_err-make_room-clause-going : goal.returns-in_err-make_room-clause-going
returns-in_err-make_room-clause-going g c =
    let q = err_from_is_err_and c.from_residual.result c.from_residual.ensures.1 in
    rw q.1 (amid_roomier g.P.Inbox.owning g.P.Inbox.since c.args.core.now c.make_room.new.machine _ _
    c.make_room.ensures.same c.make_room.ensures.kept c.requires).going

pub returns-in_err-make_room-clause-err : goal.returns-in_err-make_room-clause-err
returns-in_err-make_room-clause-err g c =
    let q = err_from_is_err_and c.from_residual.result c.from_residual.ensures.1 in
    let k = seen g.P.Inbox.owning g.P.Inbox.since c.args.core.now in
    let x : Machine = c.make_room.new.machine in
    rw (q.1, q.2) (λ d is m classes took.
    fails_recorded d c.args.state m k.work (g.W.World.value c.args.world.now) classes (Consumed c.args.got.now) took
    (value_of x k.work.owner) _ tt
    (roomy_is k.work.owner c.args.core.now.machine x x.trace.room x.trace.values_room c.make_room.ensures.same)
    c.in_err-make_room.ensures.err)

pub returns-in_default-clause-same : goal.returns-in_default-clause-same
returns-in_default-clause-same g c =
    (amid_roomier g.P.Inbox.owning g.P.Inbox.since c.args.core.now c.make_room.new.machine _ _ c.make_room.ensures.same
    c.make_room.ensures.kept c.requires).same

pub returns-in_default-clause-going : goal.returns-in_default-clause-going
returns-in_default-clause-going g c =
    (amid_roomier g.P.Inbox.owning g.P.Inbox.since c.args.core.now c.make_room.new.machine _ _ c.make_room.ensures.same
    c.make_room.ensures.kept c.requires).going

pub returns-in_default-clause-err : goal.returns-in_default-clause-err
returns-in_default-clause-err g c = λ d is m classes took.
    let k = seen g.P.Inbox.owning g.P.Inbox.since c.args.core.now in
    let x : Machine = c.make_room.new.machine in
    fails_recorded d c.args.state m k.work (g.W.World.value c.args.world.now) classes (Consumed c.args.got.now) took
    (value_of x k.work.owner) Memory tt
    (roomy_is k.work.owner c.args.core.now.machine x x.trace.room x.trace.values_room c.make_room.ensures.same) refl

pub returns-in_default-2-clause-err : goal.returns-in_default-2-clause-err
returns-in_default-2-clause-err g c = λ d is m classes took.
    let k = seen g.P.Inbox.owning g.P.Inbox.since c.args.core.now in
    let x : Machine = c.make_room.new.machine in
    fails_recorded d c.args.state m k.work (g.W.World.value c.args.world.now) classes (Consumed c.args.got.now) took
    (value_of x k.work.owner) Memory tt
    (roomy_is k.work.owner c.args.core.now.machine x x.trace.room x.trace.values_room c.make_room.ensures.same) refl

-- ---- what is taken

pub returns-in-Some-Input-clause-ok : goal.returns-in-Some-Input-clause-ok
returns-in-Some-Input-clause-ok g c = λ d is m classes took.
    let k = seen g.P.Inbox.owning g.P.Inbox.since c.args.core.now in
    let state = c.args.state in
    let got = c.args.got.now in
    let at = c.receive-at.result in
    let owner = k.work.owner in
    let y : Machine = c.make_room.new.machine in
    let same : value_of y owner ≡ k.work =
    roomy_is owner c.args.core.now.machine y y.trace.room y.trace.values_room c.make_room.ensures.same in
    let x : Machine = c.receive-at.new.machine in
    let does : Some (react.Input c.in-Some-Input.reception c.in-Some-Input.field-0-1)
    ≡ reaction_in k.process state (port.name_of got) =
    ap (λ (r : Reaction). Some r) (sym c.in-Some-Input.field-0-is) ∙ c.in-Some-Input.ensures
    ∙ ap (λ (s : SignalId). reaction_in k.process state s) c.name_of.ensures in
    answers_input k.system k.process d is state m (value_of y owner) (g.W.World.value c.args.world.now) classes
    got (subst (λ (z : MachineValue). Took d state m z classes (Consumed got)) (sym same) took)
    c.in-Some-Input.reception at c.receive-at.ensures.later c.receive-at.ensures.reading
    (value_of (record { store = x.store; trace = c.consumed.new.self }) owner)
    (seen g.P.Inbox.owning g.P.Inbox.since c.begin.new.core).work (g.W.World.value c.receive-at.new.world)
    (g.W.World.value c.begin.new.world) c.receive-at.ensures.quiet c.begin.result c.begin.ensures.begins
    c.in-Some-Input.field-0-1 does
    (received_is owner y x c.consumed.new.self (receiving (identity_of y.trace) at got y.store) (event.Consumed at got)
    c.receive-at.ensures.store c.receive-at.ensures.trace c.consumed.ensures)

pub returns-in-Some-Priority-clause-ok : goal.returns-in-Some-Priority-clause-ok
returns-in-Some-Priority-clause-ok g c = λ d is m classes took.
    let k = seen g.P.Inbox.owning g.P.Inbox.since c.args.core.now in
    let state = c.args.state in
    let got = c.args.got.now in
    let at = c.receive-at-in-Some-Priority.result in
    let owner = k.work.owner in
    let y : Machine = c.make_room.new.machine in
    let same : value_of y owner ≡ k.work =
    roomy_is owner c.args.core.now.machine y y.trace.room y.trace.values_room c.make_room.ensures.same in
    let x : Machine = c.receive-at-in-Some-Priority.new.machine in
    let does : Some (react.Priority c.in-Some-Priority.reception) ≡ reaction_in k.process state (port.name_of got) =
    ap (λ (r : Reaction). Some r) (sym c.in-Some-Priority.field-0-is) ∙ c.in-Some-Priority.ensures
    ∙ ap (λ (s : SignalId). reaction_in k.process state s) c.name_of.ensures in
    answers_priority k.system k.process d is state m (value_of y owner) (g.W.World.value c.args.world.now)
    classes got (subst (λ (z : MachineValue). Took d state m z classes (Consumed got)) (sym same) took)
    c.in-Some-Priority.reception at c.receive-at-in-Some-Priority.ensures.later
    c.receive-at-in-Some-Priority.ensures.reading
    (value_of (record { store = x.store; trace = c.prior.new.self }) owner)
    (seen g.P.Inbox.owning g.P.Inbox.since c.begin-in-Some-Priority.new.core).work
    (g.W.World.value c.receive-at-in-Some-Priority.new.world) (g.W.World.value c.begin-in-Some-Priority.new.world)
    c.receive-at-in-Some-Priority.ensures.quiet c.begin-in-Some-Priority.result
    c.begin-in-Some-Priority.ensures.begins does
    (received_is owner y x c.prior.new.self (receiving (identity_of y.trace) at got y.store) (event.Prior at got)
    c.receive-at-in-Some-Priority.ensures.store c.receive-at-in-Some-Priority.ensures.trace c.prior.ensures)
