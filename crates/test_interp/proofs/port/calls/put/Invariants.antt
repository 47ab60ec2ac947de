use Rattle.std.proofs.Common.{◌≡◌}
use Rattle.test_interp.proofs.port.calls.put.Given as goal

abbrev pub invariant-loop-name : goal.invariant-loop-name
invariant-loop-name g l = l.sender.port ≡ l.port.queue
