use Rattle.std.proofs.Common.{◌≡◌}
use Rattle.bench.proofs.shared.take_many.Given as goal

abbrev pub invariant-loop : goal.invariant-loop
invariant-loop g l = l.owner.port ≡ l.port.queue
