use Rattle.std.proofs.Common.{ap, refl}
use Rattle.run_semantics.proofs.Goes.{goes_failed, goes_until}
use Rattle.run_semantics.specs.Goes.{AreInner}
use Rattle.run_semantics.specs.ControlPoint.{Doing, Ended}
use Rattle.sdl_interp.proofs.Staying.{same_failed, same_on}
use Rattle.sdl_interp.specs.Running.{CoreValue, failed, seen}
use Rattle.sdl_interp.proofs.transitions.running.Core.make.Goals as goal

pub returns-in-Err-clause-same : goal.returns-in-Err-clause-same
returns-in-Err-clause-same g c =
    let m = seen g.P.Inbox.owning g.P.Inbox.since c.walk.new.self in
    let n = seen g.P.Inbox.owning g.P.Inbox.since c.fail.new.self in
    same_on (seen g.P.Inbox.owning g.P.Inbox.since c.args.self.now) m n c.in-Err.ensures.same
    (same_failed m n c.in-Err.why c.fail.ensures)

pub returns-in-Err-clause-reached : goal.returns-in-Err-clause-reached
returns-in-Err-clause-reached g c = record { ready = tt; inside = tt; started = λ is. cc }

pub returns-in-Err-clause-walks : goal.returns-in-Err-clause-walks
returns-in-Err-clause-walks g c = λ d is todo stands.
    let k = seen g.P.Inbox.owning g.P.Inbox.since c.args.self.now in
    let m = seen g.P.Inbox.owning g.P.Inbox.since c.walk.new.self in
    let n = seen g.P.Inbox.owning g.P.Inbox.since c.fail.new.self in
    let w = g.W.World.value c.args.world.now in
    let v = g.W.World.value c.walk.new.world in
    let why = c.in-Err.why in
    let from = Doing c.args.origin todo in
    goes_until d AreInner from Ended k.work (failed why m).work n.work w v v
    (ap (λ (x : CoreValue). x.work) c.fail.ensures) refl
    (goes_failed d from k.work m.work w v why (c.in-Err.ensures.err d is todo stands) c.in-Err.ensures.going.alive)
