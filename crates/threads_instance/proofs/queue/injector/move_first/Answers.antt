use Rattle.std.proofs.Common.{arith}
use Rattle.threads_instance.proofs.Moving.{left, sent}
use Rattle.threads_instance.proofs.queue.injector.move_first.Goals as goal

pub returns-clause-from : goal.returns-clause-from
returns-clause-from c =
    left c.loop-moved.to.items c.args.to.now.items c.loop-moved.from.items c.args.from.now.items c.args.count
    c.loop-moved.invariant.numbers (omega (arith, c.loop-moved.invariant.moved))

pub returns-clause-to : goal.returns-clause-to
returns-clause-to c =
    sent c.loop-moved.to.items c.args.to.now.items c.loop-moved.from.items c.args.from.now.items c.args.count
    c.loop-moved.invariant.numbers (omega (arith, c.loop-moved.invariant.moved))
