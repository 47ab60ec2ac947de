use Rattle.std.proofs.Common.{arith}
use Rattle.serial_sweeps.proofs.Moments.{no_line_by_nought}
use Rattle.serial_sweeps.proofs.scheduler.Scheduler.new.Goals as goal

pub returns-clause-due : goal.returns-clause-due
returns-clause-due c = record {
  fuses = λ place d below. omega arith;
  lines = no_line_by_nought c.args.script.now;
}
