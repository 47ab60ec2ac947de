use Rattle.std.proofs.Common.{◌≡◌, ℕ, length}
use Rattle.serial_sweeps.specs.Sweeps.{moment_of}
use Rattle.serial_sweeps.proofs.scheduler.Scheduler.expire_all.Given as goal

abbrev pub invariant-loop-fuse : goal.invariant-loop-fuse
invariant-loop-fuse g l = record {
  fits : g.A.InstanceSet.Fits l.self.agenda.ready l.instances;
  clock : l.self.agenda.clock ≡ l.fn.self.agenda.clock;
  begun : l.self.begun ≡ l.fn.self.begun;
  left : l.self.left ≡ l.fn.self.left;
  runs : (last : ℕ) → g.A.InstanceSet.Reaches last (moment_of l.fn.self) l.fn.instances (moment_of l.self) l.instances;
}

abbrev pub decreases-loop-fuse : goal.decreases-loop-fuse
decreases-loop-fuse g l = length l.self.agenda.fuses
