use Rattle.std.proofs.Common.{rules}
use Rattle.input_port.specs.QueueWords.{HasDrawn}
use Rattle.input_port.proofs.QueueDrawing.{none_drawn}
use Rattle.input_port.proofs.queue.receiver.Receiver.take_drawn.Goals as goal

pub returns-in_err-next-clause-take : goal.returns-in_err-next-clause-take
returns-in_err-next-clause-take g c =
    let drawn : HasDrawn c.args.self.now c.take_next.new.self = none_drawn _ _ c.in_err-next.ensures.next.1 in search rules
