use Rattle.std.proofs.Common.{sym}
use Rattle.run_order.proofs.Weaving.{not_inside}
use Rattle.run_order.proofs.pending.Pending.is_inside.Goals as goal

pub returns-in_default : goal.returns-in_default
returns-in_default c = sym (not_inside c.args.self.now c.in_default.not-Inside)
