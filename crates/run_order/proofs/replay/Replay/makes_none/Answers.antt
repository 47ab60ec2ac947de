use Rattle.run_order.proofs.Happenings.{none_next, some_next}
use Rattle.run_order.proofs.replay.Replay.makes_none.Goals as goal

pub returns-in-Some : goal.returns-in-Some
returns-in-Some c = some_next _ _ c.in-Some.ensures

pub returns-in-None : goal.returns-in-None
returns-in-None c = none_next _ c.in-None.ensures
