use Rattle.std.proofs.Common.{◌-◌, ◌^◌}
use Rattle.serial_sweeps.specs.Sweeps.{IsNothingDue, moment_of, until_of}
use Rattle.serial_sweeps.proofs.scheduler.Scheduler.run.Given as goal

abbrev pub invariant-loop-self : goal.invariant-loop-self
invariant-loop-self g l = record {
  fits : g.A.InstanceSet.Fits l.self.agenda.ready l.instances;
  due : IsNothingDue (moment_of l.self);
  runs : g.A.InstanceSet.Reaches l.last (moment_of l.fn.self) l.fn.instances (moment_of l.self) l.instances;
}

abbrev pub decreases-loop-self : goal.decreases-loop-self
decreases-loop-self g l = 2 ^ 64 - until_of l.self.begun l.self.agenda.clock
