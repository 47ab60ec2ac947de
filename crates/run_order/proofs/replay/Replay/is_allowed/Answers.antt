use Rattle.run_order.proofs.Happenings.{told_create, told_full, told_other, told_send}
use Rattle.run_order.proofs.replay.Replay.is_allowed.Goals as goal

pub returns-in-Send : goal.returns-in-Send
returns-in-Send c = told_send c.args.self.now.order c.args.looked c.args.what.now _ _ _ c.in-Send.is

pub returns-in-Create : goal.returns-in-Create
returns-in-Create c =
    told_create c.args.self.now.order c.args.looked c.is_next.result c.args.what.now _ _ _ _ c.in-Create.is
    c.is_next.ensures

pub returns-in-Full : goal.returns-in-Full
returns-in-Full c =
    told_full c.args.self.now.order c.args.looked c.makes_none.result c.args.what.now _ c.in-Full.is
    c.makes_none.ensures

pub returns-in_default : goal.returns-in_default
returns-in_default c =
    told_other c.args.self.now.order c.args.looked c.args.what.now c.in_default.not-Send c.in_default.not-Create
    c.in_default.not-Full
