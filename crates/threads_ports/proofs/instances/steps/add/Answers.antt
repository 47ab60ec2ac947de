use Rattle.std.proofs.Common.{rules}
use Rattle.threads_ports.proofs.Moves.{draws}
use Rattle.threads_ports.proofs.instances.steps.add.Goals as goal

pub fetch_add-requires : goal.fetch_add-requires
fetch_add-requires c = (search rules, search rules, draws _ _ _ c.requires.rights.0 c.requires.rights.1)
