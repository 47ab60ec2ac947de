use Rattle.input_port.proofs.QueueDrawing.{draws_more}
use Rattle.bench.proofs.retry.take.Goals as goal

pub returns-in-Err-take-clause-refused : goal.returns-in-Err-take-clause-refused
returns-in-Err-take-clause-refused g c =
    draws_more _ _ _ c.in-Err.ensures.take.1 c.in-Err-take.ensures.take.1
