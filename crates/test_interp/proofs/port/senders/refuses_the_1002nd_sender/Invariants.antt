use Rattle.std.proofs.Common.{◌≡◌}
use Rattle.test_interp.proofs.port.senders.refuses_the_1002nd_sender.Given as goal

abbrev pub invariant-loop-number : goal.invariant-loop-number
invariant-loop-number g l = l.desk.port ≡ l.port.queue
