use Rattle.std.proofs.Common.{subst}
use Rattle.input_port.specs.QueueEnds.{IsKnowing}
use Rattle.input_port.proofs.queue.receiver.Receiver.knows.Goals as goal

pub returns : goal.returns
returns c =
    let is = c.self.invariant.0 in
    subst IsKnowing c.self.view_is (record { begins = is.begins; there = is.there; apart = is.apart })
