use Rattle.build_statements.proofs.LaterLemmas.{later-noted}
use Rattle.build_statements.proofs.nodes.laws.later_noted.Goals as goal

pub returns : goal.returns
returns c = later-noted
