use Rattle.input_port.proofs.Meeting.{takes_in}
use Rattle.input_port.proofs.queue.receiver.take_in.Goals as goal

pub returns-clause-taken : goal.returns-clause-taken
returns-clause-taken g c = takes_in _ _ _ _ c.pop.result c.take_back.ensures.gathered c.pop.ensures.popped
