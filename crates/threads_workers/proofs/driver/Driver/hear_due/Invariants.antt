use Rattle.std.proofs.Common.{◌≡◌, ◌≤◌, length}
use Rattle.threads_workers.proofs.driver.Driver.hear_due.Given as goal

abbrev pub invariant-loop-turn : goal.invariant-loop-turn
invariant-loop-turn g l =
    (l.self.environment.lines ≡ l.fn.self.environment.lines) × (l.self.time ≡ l.fn.self.time)
    × (l._turn-end ≡ length l.fn.self.environment.lines) × (l._turn ≤ l.self.environment.line)
