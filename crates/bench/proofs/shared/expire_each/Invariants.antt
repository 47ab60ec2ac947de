use Rattle.std.proofs.Common.{◌≡◌}
use Rattle.bench.proofs.shared.expire_each.Given as goal

abbrev pub invariant-loop-value : goal.invariant-loop-value
invariant-loop-value g l = (l.owner.port ≡ l.port.queue) × (l.sender.port ≡ l.port.queue)
