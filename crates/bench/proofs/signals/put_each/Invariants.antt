use Rattle.std.proofs.Common.{◌≡◌}
use Rattle.bench.proofs.signals.put_each.Given as goal

abbrev pub invariant-loop-name : goal.invariant-loop-name
invariant-loop-name g l = l.sender.port ≡ l.port.queue
