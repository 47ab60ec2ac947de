use Rattle.std.proofs.Common.{rules}
use Rattle.threads_ports.proofs.Moves.{looks}
use Rattle.threads_ports.proofs.instances.steps.look.Goals as goal

pub load-requires : goal.load-requires
load-requires c = (search rules, search rules, looks _ _ _)
