use Rattle.std.proofs.Common.{◌≡◌}
use Rattle.test_interp.proofs.port.calls.expect_takes.Given as goal

abbrev pub invariant-loop-signal : goal.invariant-loop-signal
invariant-loop-signal g l = l.owner.port ≡ l.port.queue
