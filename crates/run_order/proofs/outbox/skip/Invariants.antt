use Rattle.std.proofs.Common.{◌≡◌, drop}
use Rattle.run_order.proofs.outbox.skip.Given as goal

abbrev pub invariant-loop : goal.invariant-loop
invariant-loop l = l.events ≡ drop l.counter l.fn.events
