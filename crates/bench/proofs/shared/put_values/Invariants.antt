use Rattle.std.proofs.Common.{◌≡◌}
use Rattle.bench.proofs.shared.put_values.Given as goal

abbrev pub invariant-loop-before : goal.invariant-loop-before
invariant-loop-before g l = l.sender.port ≡ l.port.queue
