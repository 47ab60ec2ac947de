use Rattle.run_order.proofs.Reading.{there_by}
use Rattle.run_order.proofs.replay.Replay.is_there.Goals as goal

pub returns : goal.returns
returns c =
    there_by c.is_some.result c.place_of.result c.args.self.now.order c.args.number c.is_some.ensures
    c.place_of.ensures.some
    c.place_of.ensures.none
