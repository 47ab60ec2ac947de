use Rattle.build_statements.proofs.BrokenLaws.{broken-listed}
use Rattle.build_statements.proofs.nodes.laws.broken_is_listed.Goals as goal

pub returns : goal.returns
returns c = broken-listed
