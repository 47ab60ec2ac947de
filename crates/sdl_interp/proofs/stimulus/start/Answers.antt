use Rattle.std.proofs.Common.{ap, None, true}
use Rattle.sdl_interp.proofs.Bodies.{start_begins}
use Rattle.sdl_interp.proofs.First.{starts}
use Rattle.sdl_interp.proofs.Recorded.{started_is}
use Rattle.run_semantics.proofs.Goes.{step_on}
use Rattle.run_semantics.specs.Goes.{MachineValue}
use Rattle.run_semantics.specs.ControlPoint.{AtStart, Doing}
use Rattle.run_record.specs.Event as event
use Rattle.sdl_interp.proofs.Staying.{going_told, same_on, same_told}
use Rattle.sdl_interp.specs.Machine.{place_of, value_of}
use Rattle.sdl_interp.specs.Running.{seen}
use Rattle.sdl_interp.specs.declared.transitions.machine.Machine.{Machine}
use Rattle.sdl_interp.proofs.stimulus.start.Goals as goal

pub returns-clause-leads : goal.returns-clause-leads
returns-clause-leads g c = λ d is.
    let k = seen g.P.Inbox.owning g.P.Inbox.since c.args.core.now in
    let at = c.read_clock-at.result in
    let w = g.W.World.value c.args.world.now in
    let v = g.W.World.value c.read_clock-at.new.world in
    let begun = start_begins k.process d.behaviour is.behaves.means in
    let x : Machine = c.read_clock-at.new.machine in
    let n : MachineValue =
    value_of (record { store = record x.store { done = 0 }; trace = c.start.new.self }) k.work.owner in
    step_on d true AtStart (Doing None begun.next) (place_of c.make.result) k.work n
    (seen g.P.Inbox.owning g.P.Inbox.since c.make.new.self).work w v (g.W.World.value c.make.new.world)
    (starts d at begun.next k.work n w v begun.listed c.read_clock-at.ensures.later c.read_clock-at.ensures.reading
    (started_is k.work.owner c.args.core.now.machine x at c.read_clock-at.ensures.time c.start.new.self c.start.ensures)
    c.read_clock-at.ensures.quiet)
    (c.make.ensures.walks d is begun.next begun.stands)

pub make-requires : goal.make-requires
make-requires g c =
    let x : Machine = c.read_clock-at.new.machine in
    going_told g.P.Inbox.owning g.P.Inbox.since c.args.core.now
    (record { store = record x.store { done = 0 }; trace = c.start.new.self }) x.trace
    (event.Start c.read_clock-at.result) c.start.ensures (ap (λ (m : Machine). m.trace) c.read_clock-at.ensures.time)
    c.requires.1 c.requires.0

pub returns-clause-same : goal.returns-clause-same
returns-clause-same g c =
    let owning = g.P.Inbox.owning in
    let since = g.P.Inbox.since in
    let x : Machine = c.read_clock-at.new.machine in
    same_on (seen owning since c.args.core.now) _ (seen owning since c.make.new.self)
    (same_told owning since c.args.core.now
    (record { store = record x.store { done = 0 }; trace = c.start.new.self }) x.trace
    (event.Start c.read_clock-at.result) c.start.ensures (ap (λ (m : Machine). m.trace) c.read_clock-at.ensures.time))
    c.make.ensures.same
