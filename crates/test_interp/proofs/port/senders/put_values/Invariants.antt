use Rattle.std.proofs.Common.{◌≡◌}
use Rattle.test_interp.proofs.port.senders.put_values.Given as goal

abbrev pub invariant-loop-value : goal.invariant-loop-value
invariant-loop-value g l = l.sender.port ≡ l.port.queue
