use Rattle.run_order.proofs.Weaving.{other_armed, own_armed}
use Rattle.run_order.proofs.pending.own_arm.Goals as goal

pub returns-in-Arm : goal.returns-in-Arm
returns-in-Arm c = own_armed c.args.effect c.in-Arm.fuse c.in-Arm.is

pub returns : goal.returns
returns c = other_armed c.args.effect c.in_default.not-Arm
