use Rattle.std.proofs.Common.{◌≡◌}
use Rattle.bench.proofs.rows.take_values.Given as goal

abbrev pub invariant-loop : goal.invariant-loop
invariant-loop g l = l.owner.port ≡ l.port.queue
