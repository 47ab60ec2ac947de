use Rattle.port_model.proofs.Table.{active_is}
use Rattle.port_model.proofs.timers.Timers.active.Goals as goal

pub returns : goal.returns
returns c = let is = active_is c.args.key.now c.self.inside.table.entries in cc
