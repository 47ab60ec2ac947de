use Rattle.run_order.proofs.Happenings.{next_so, no_next}
use Rattle.run_order.proofs.replay.Replay.is_next.Goals as goal

pub returns-in-Some : goal.returns-in-Some
returns-in-Some c = next_so c.in-Some.next c.args.number _ c.in-Some.ensures

pub returns-in-None : goal.returns-in-None
returns-in-None c = no_next c.args.number _ c.in-None.ensures
