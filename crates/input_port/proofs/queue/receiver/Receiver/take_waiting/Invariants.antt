use Rattle.std.proofs.Common.{◌≡◌}
use Rattle.port_model.specs.Calls.{HasDrawn}
use Rattle.input_port.proofs.queue.receiver.Receiver.take_waiting.Given as goal

abbrev pub invariant-loop : goal.invariant-loop
invariant-loop g l = (l.self.port ≡ l.port.queue) × HasDrawn l.fn.self l.self
