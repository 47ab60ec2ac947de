use Rattle.std.proofs.Common.{◌≡◌, ℕ, length}
use Rattle.serial_sweeps.specs.Sweeps.{IsNothingDue, KeepsTime, moment_of}
use Rattle.serial_sweeps.proofs.scheduler.Scheduler.make_transition.Given as goal

abbrev pub invariant-loop-turn : goal.invariant-loop-turn
invariant-loop-turn g l = record {
  fits : g.A.InstanceSet.Fits l.self.agenda.ready l.instances;
  same : KeepsTime l.fn.self l.self;
  due : IsNothingDue (moment_of l.self);
  left : l.self.left ≡ l.fn.self.left;
  runs : (last : ℕ) → g.A.InstanceSet.Reaches last (moment_of l.fn.self) l.fn.instances (moment_of l.self) l.instances;
}

abbrev pub decreases-loop-turn : goal.decreases-loop-turn
decreases-loop-turn g l = length l.self.agenda.ready
