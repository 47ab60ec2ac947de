use Rattle.std.proofs.Common.{ℕ}
use Rattle.serial_sweeps.specs.Sweeps.{IsNothingDue, KeepsTime, moment_of}
use Rattle.serial_sweeps.proofs.scheduler.Scheduler.settle.Given as goal

abbrev pub invariant-loop-self : goal.invariant-loop-self
invariant-loop-self g l = record {
  fits : g.A.InstanceSet.Fits l.self.agenda.ready l.instances;
  same : KeepsTime l.fn.self l.self;
  due : IsNothingDue (moment_of l.self);
  runs : (last : ℕ) → g.A.InstanceSet.Reaches last (moment_of l.fn.self) l.fn.instances (moment_of l.self) l.instances;
}

abbrev pub decreases-loop-self : goal.decreases-loop-self
decreases-loop-self g l = l.self.left
