use Rattle.std.proofs.Common.{◌^◌, ◌<◌, rules}
use Rattle.serial_sweeps.proofs.Moments.{clock_on}
use Rattle.serial_sweeps.specs.Sweeps.{moment_of}
use Rattle.serial_sweeps.proofs.scheduler.Scheduler.run.Goals as goal

pub loop-self-init : goal.loop-self-init
loop-self-init g c = record {
  fits = c.requires.fits;
  due = c.requires.due;
  runs = g.met.A.InstanceSet.stays c.args.last (moment_of c.args.self.now) c.args.instances.now;
}

pub loop-self-preserved : goal.loop-self-preserved
loop-self-preserved g c =
    let last = c.args.last in
    let s = moment_of c.args.self.now in
    let m = moment_of c.loop-self.self in
    let t = moment_of c.settle.new.self in
    let u = moment_of c.advance.new.self in
    let a = c.args.instances.now in
    let b = c.loop-self.instances in
    let d = c.settle.new.instances in
    let e = c.advance.new.instances in
    let on = g.met.A.InstanceSet.goes_on last in
    record {
      fits = c.in_ok-advance.ensures.fits;
      due = c.in_ok-advance.ensures.due;
      runs = on s t u a d e (on s m t a b d c.loop-self.invariant.runs (c.in_ok-settle.ensures.runs last))
          (c.in_ok-advance.ensures.runs last c.in-Some.ensures.next);
    }

pub loop-self-smaller : goal.loop-self-smaller
loop-self-smaller g c =
    let within : c.in-Some.time < 2 ^ 64 = search rules in
    clock_on (2 ^ 64) c.args.last c.in-Some.time c.loop-self.self c.settle.new.self c.advance.new.self
    c.settle.ensures.same c.in_ok-settle.ensures.due c.in-Some.ensures.next c.in_ok-advance.ensures.clock
    c.in_ok-advance.ensures.begun within

-- at the end, whole or cut

pub returns-in_default-clause-runs : goal.returns-in_default-clause-runs
returns-in_default-clause-runs g c =
    g.met.A.InstanceSet.goes_on c.args.last (moment_of c.args.self.now) (moment_of c.loop-self.self)
    (moment_of c.settle.new.self) c.args.instances.now c.loop-self.instances c.settle.new.instances c.loop-self.invariant.runs
    (c.in_ok-settle.ensures.runs c.args.last)

pub returns-clause-runs : goal.returns-clause-runs
returns-clause-runs g c =
    g.met.A.InstanceSet.goes_on c.args.last (moment_of c.args.self.now) (moment_of c.loop-self.self)
    (moment_of c.settle.new.self) c.args.instances.now c.loop-self.instances c.settle.new.instances c.loop-self.invariant.runs
    (c.in_ok-settle.ensures.runs c.args.last)
