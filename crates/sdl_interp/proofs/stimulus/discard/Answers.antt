use Rattle.std.proofs.Common.{◌≡◌, sym, subst}
use Rattle.std.proofs.lemmas.Result.{err_from_is_err_and}
use Rattle.port_model.specs.declared.taken.Taken.TheVariants.{Discarded}
use Rattle.sdl_interp.proofs.First.{discards, fails_recorded}
use Rattle.sdl_interp.proofs.Recorded.{discarded_is, roomy_is}
use Rattle.sdl_interp.specs.Stimulus.{Took}
use Rattle.run_semantics.specs.Goes.{MachineValue}
use Rattle.sdl_interp.proofs.Staying.{amid_roomier}
use Rattle.sdl_interp.specs.Machine.{identity_of, value_of}
use Rattle.sdl_interp.specs.Running.{seen}
use Rattle.sdl_interp.specs.declared.transitions.machine.Machine.{Machine}
use Rattle.sdl_interp.proofs.stimulus.discard.Goals as goal

pub returns-in_err-make_room-clause-same : goal.returns-in_err-make_room-clause-same
returns-in_err-make_room-clause-same g c =
    (amid_roomier g.P.Inbox.owning g.P.Inbox.since c.args.core.now c.make_room.new.machine _ _ c.make_room.ensures.same
    c.make_room.ensures.kept c.requires.going).same

pub returns-in_err-make_room-clause-going : goal.returns-in_err-make_room-clause-going
returns-in_err-make_room-clause-going g c =
    let q = err_from_is_err_and c.from_residual.result c.from_residual.ensures.1 in
    rw q.1 (amid_roomier g.P.Inbox.owning g.P.Inbox.since c.args.core.now c.make_room.new.machine _ _
    c.make_room.ensures.same c.make_room.ensures.kept c.requires.going).going

pub returns-in_err-make_room-clause-err : goal.returns-in_err-make_room-clause-err
returns-in_err-make_room-clause-err g c =
    let q = err_from_is_err_and c.from_residual.result c.from_residual.ensures.1 in
    let k = seen g.P.Inbox.owning g.P.Inbox.since c.args.core.now in
    let x : Machine = c.make_room.new.machine in
    rw (q.1, q.2) (λ d is m classes took.
    fails_recorded d c.args.state m k.work (g.W.World.value c.args.world.now) classes (Discarded c.args.got.now) took
    (value_of x k.work.owner) _ tt
    (roomy_is k.work.owner c.args.core.now.machine x x.trace.room x.trace.values_room c.make_room.ensures.same)
    c.in_err-make_room.ensures.err)

pub returns-clause-ok : goal.returns-clause-ok
returns-clause-ok g c = λ d is m classes took.
    let k = seen g.P.Inbox.owning g.P.Inbox.since c.args.core.now in
    let got = c.args.got.now in
    let at = c.read_clock-at.result in
    let owner = k.work.owner in
    let y : Machine = c.make_room.new.machine in
    let same : value_of y owner ≡ k.work =
    roomy_is owner c.args.core.now.machine y y.trace.room y.trace.values_room c.make_room.ensures.same in
    let x : Machine = c.read_clock-at.new.machine in
    let n : MachineValue = value_of (record {
      store = record x.store { sender = c.sender_of-core.result };
      trace = c.discarded.new.self;
    }) owner in
    discards d c.args.state m (value_of y owner) (g.W.World.value c.args.world.now) classes got
    (subst (λ (l : MachineValue). Took d c.args.state m l classes (Discarded got)) (sym same) took) at n
    (g.W.World.value c.read_clock-at.new.world) c.read_clock-at.ensures.later c.read_clock-at.ensures.reading
    (discarded_is owner y x at c.read_clock-at.ensures.time c.discarded.new.self got c.sender_of-core.result
    (c.sender_of-core.ensures (identity_of x.trace) (sym c.pid.ensures)) c.discarded.ensures)
    c.read_clock-at.ensures.quiet
