use Rattle.std.proofs.Common.{refl}
use Rattle.serial_sweeps.proofs.Moments.{keeps_time_on}
use Rattle.serial_sweeps.specs.Sweeps.{moment_of}
use Rattle.serial_sweeps.proofs.scheduler.Scheduler.settle.Goals as goal

pub loop-self-init : goal.loop-self-init
loop-self-init g c = record {
  fits = c.requires.fits;
  same = record { script = refl; clock = refl; begun = refl };
  due = c.requires.due;
  runs = λ last. g.met.A.InstanceSet.stays last (moment_of c.args.self.now) c.args.instances.now;
}

pub loop-self-preserved : goal.loop-self-preserved
loop-self-preserved g c =
    let s = c.args.self.now in
    let m = c.loop-self.self in
    let t = c.make_transition.new.self in
    let now = c.in_ok-make_transition.ensures in
    record {
      fits = now.fits;
      same = keeps_time_on s m t c.loop-self.invariant.same c.make_transition.ensures.same;
      due = now.due;
      runs = λ last. g.met.A.InstanceSet.goes_on last (moment_of s) (moment_of m) (moment_of t) c.args.instances.now
          c.loop-self.instances c.make_transition.new.instances (c.loop-self.invariant.runs last) (now.runs last);
    }

pub returns-then-not-branch-clause-runs : goal.returns-then-not-branch-clause-runs
returns-then-not-branch-clause-runs g c = λ last.
    g.met.A.InstanceSet.goes_on last (moment_of c.args.self.now) (moment_of c.loop-self.self)
    (moment_of c.make_transition.new.self) c.args.instances.now c.loop-self.instances c.make_transition.new.instances
    (c.loop-self.invariant.runs last) (c.in_ok-make_transition.ensures.runs last)
