use Rattle.build_expressions.proofs.BrokenLaws.{broken-listed-at}
use Rattle.build_expressions.proofs.laws.broken_is_listed_at.Goals as goal

pub returns : goal.returns
returns c = broken-listed-at
