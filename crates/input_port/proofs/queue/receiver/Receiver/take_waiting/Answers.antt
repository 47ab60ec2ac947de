use Rattle.std.proofs.Common.{◌∙◌, ap, rules}
use Rattle.port_model.specs.Calls.{HasDrawn}
use Rattle.input_port.proofs.QueueDrawing.{goes_on}
use Rattle.input_port.proofs.queue.receiver.Receiver.take_waiting.Goals as goal

pub returns-in_err-pull-clause-take : goal.returns-in_err-pull-clause-take
returns-in_err-pull-clause-take g c =
    let drawn : HasDrawn c.args.self.now c.pull.new.self =
    goes_on _ _ _ _ _ c.pull.result c.loop.invariant.1 c.in-Nothing.ensures.take c.in-Nothing.ensures.same c.pull.ensures.pulled in
    search rules

pub loop-preserved : goal.loop-preserved
loop-preserved g c = (
  c.pull.ensures.port ∙ ap (λ o. o.port) c.choose.ensures.same ∙ c.loop.invariant.0,
  goes_on _ _ _ _ _ c.pull.result c.loop.invariant.1 c.in-Nothing.ensures.take c.in-Nothing.ensures.same c.pull.ensures.pulled,
)
