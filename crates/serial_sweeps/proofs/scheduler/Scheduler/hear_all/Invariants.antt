use Rattle.std.proofs.Common.{◌≡◌, ◌<◌, ℕ, length}
use Rattle.serial_sweeps.specs.Sweeps.{moment_of}
use Rattle.serial_sweeps.proofs.scheduler.Scheduler.hear_all.Given as goal

abbrev pub invariant-loop-line : goal.invariant-loop-line
invariant-loop-line g l = record {
  fits : g.A.InstanceSet.Fits l.self.agenda.ready l.instances;
  clock : l.self.agenda.clock ≡ l.fn.self.agenda.clock;
  begun : l.self.begun ≡ l.fn.self.begun;
  fuses : l.self.agenda.fuses ≡ l.fn.self.agenda.fuses;
  left : 0 < l.self.left;
  runs : (last : ℕ) → g.A.InstanceSet.Reaches last (moment_of l.fn.self) l.fn.instances (moment_of l.self) l.instances;
}

abbrev pub decreases-loop-line : goal.decreases-loop-line
decreases-loop-line g l = length l.self.script.now
