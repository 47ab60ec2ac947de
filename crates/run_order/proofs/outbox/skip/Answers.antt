use Rattle.run_order.proofs.Weaving.{skip_one}
use Rattle.run_order.proofs.outbox.skip.Goals as goal

pub loop-preserved : goal.loop-preserved
loop-preserved c =
    skip_one c.next.result c.loop.events c.next.new.self c.args.events.now c.loop.counter c.next.ensures.steps
    c.loop.invariant
