use Rattle.sdl_system.proofs.WalkLemmas.{stands_at_node}
use Rattle.sdl_system.proofs.laws.stands_at_nodes.Goals as goal

pub returns : goal.returns
returns c = stands_at_node
