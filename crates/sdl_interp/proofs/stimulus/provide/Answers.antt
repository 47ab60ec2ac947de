use Rattle.std.proofs.Common.{ap, Some, true}
use Rattle.port_model.specs.declared.values.pid.Pid.TheVariants.{Of}
use Rattle.run_record.specs.Environment.{environment}
use Rattle.sdl_interp.proofs.Bodies.{found_begins}
use Rattle.sdl_interp.proofs.First.{provides}
use Rattle.sdl_interp.proofs.Recorded.{provided_is}
use Rattle.run_semantics.proofs.Goes.{step_on}
use Rattle.run_semantics.specs.Goes.{MachineValue}
use Rattle.run_semantics.specs.ControlPoint.{Doing, In}
use Rattle.run_record.specs.Event as event
use Rattle.sdl_interp.proofs.Staying.{going_told, same_on, same_told}
use Rattle.sdl_interp.specs.Machine.{place_of, value_of}
use Rattle.sdl_interp.specs.Running.{seen}
use Rattle.sdl_interp.specs.declared.transitions.machine.Machine.{Machine}
use Rattle.sdl_interp.proofs.stimulus.provide.Goals as goal

pub returns-clause-provides : goal.returns-clause-provides
returns-clause-provides g c = λ d is m classes took found.
    let k = seen g.P.Inbox.owning g.P.Inbox.since c.args.core.now in
    let state = c.args.state in
    let number = c.args.signal.number in
    let at = c.read_clock-at.result in
    let w = g.W.World.value c.args.world.now in
    let v = g.W.World.value c.read_clock-at.new.world in
    let begun = found_begins k.process d.behaviour is.behaves.means
    (environment d.system m.who m.store m.owner.state) took.selecting.state c.args.signal found in
    let x : Machine = c.read_clock-at.new.machine in
    let n : MachineValue = value_of (record {
      store = record x.store { sender = Of c.pid.result; done = 0 };
      trace = c.provided.new.self;
    }) k.work.owner in
    step_on d true (In state) (Doing (Some state) begun.begun.next) (place_of c.make.result) m n
    (seen g.P.Inbox.owning g.P.Inbox.since c.make.new.self).work w v (g.W.World.value c.make.new.world)
    (provides d state m k.work w classes took at number begun.number begun.begun.next n v begun.tries begun.begun.listed
    c.read_clock-at.ensures.later c.read_clock-at.ensures.reading
    (provided_is k.work.owner c.args.core.now.machine x at c.read_clock-at.ensures.time c.provided.new.self c.pid.result
    number c.pid.ensures c.provided.ensures)
    c.read_clock-at.ensures.quiet)
    (c.make.ensures.walks d is begun.begun.next begun.begun.stands)

pub make-requires : goal.make-requires
make-requires g c =
    let x : Machine = c.read_clock-at.new.machine in
    going_told g.P.Inbox.owning g.P.Inbox.since c.args.core.now
    (record { store = record x.store { sender = Of c.pid.result; done = 0 }; trace = c.provided.new.self }) x.trace
    (event.Provided c.read_clock-at.result c.args.signal.number) c.provided.ensures
    (ap (λ (m : Machine). m.trace) c.read_clock-at.ensures.time) c.requires.room c.requires.going

pub returns-clause-same : goal.returns-clause-same
returns-clause-same g c =
    let owning = g.P.Inbox.owning in
    let since = g.P.Inbox.since in
    let x : Machine = c.read_clock-at.new.machine in
    same_on (seen owning since c.args.core.now) _ (seen owning since c.make.new.self)
    (same_told owning since c.args.core.now
    (record { store = record x.store { sender = Of c.pid.result; done = 0 }; trace = c.provided.new.self }) x.trace
    (event.Provided c.read_clock-at.result c.args.signal.number) c.provided.ensures
    (ap (λ (m : Machine). m.trace) c.read_clock-at.ensures.time)) c.make.ensures.same
