use Rattle.std.proofs.Common.{◌≡◌}
use Rattle.input_port.specs.Calls.{HasDrawnSince}
use Rattle.input_port.proofs.since.drain.Given as goal

abbrev pub invariant-loop : goal.invariant-loop
invariant-loop g l = (l.receiver.port ≡ l.port.queue) × HasDrawnSince l.fn.receiver l.receiver l.fn.since.items l.since.items
