use Rattle.std.proofs.Common.{◌≡◌}
use Rattle.threads_workers.proofs.driver.Driver.drive.Given as goal

abbrev pub invariant-loop : goal.invariant-loop
invariant-loop g l = l.self.environment.lines ≡ l.fn.self.environment.lines
