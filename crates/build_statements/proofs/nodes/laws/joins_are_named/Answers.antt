use Rattle.build_statements.proofs.NamedLemmas.{joins-named}
use Rattle.build_statements.proofs.nodes.laws.joins_are_named.Goals as goal

pub returns : goal.returns
returns c = joins-named
