use Rattle.std.proofs.Common.{◌∙◌}
use Rattle.input_port.proofs.QueueDrawing.{draws_more, pull_draws}
use Rattle.input_port.proofs.queue.receiver.Receiver.drain.Goals as goal

pub loop-preserved : goal.loop-preserved
loop-preserved g c =
    (c.pull.ensures.port ∙ c.loop.invariant.0, draws_more _ _ _ c.loop.invariant.1 (pull_draws _ _ c.pull.result c.pull.ensures.pulled))
