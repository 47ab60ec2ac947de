use Rattle.std.proofs.Common.{◌≡◌}
use Rattle.test_interp.proofs.port.senders.take_all.Given as goal

abbrev pub invariant-loop : goal.invariant-loop
invariant-loop g l = l.owner.port ≡ l.port.queue
