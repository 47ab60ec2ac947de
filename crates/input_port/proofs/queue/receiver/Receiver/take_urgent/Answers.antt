use Rattle.input_port.proofs.QueueDrawing.{taken_urgent}
use Rattle.input_port.proofs.queue.receiver.Receiver.take_urgent.Goals as goal

pub returns-in-Some-clause-take : goal.returns-in-Some-clause-take
returns-in-Some-clause-take g c =
    let got = c.in-Some.ensures in rw (← c.self.view_is) (taken_urgent _ _ _ _ _ got.state.0 got.state.1 got.armed)
