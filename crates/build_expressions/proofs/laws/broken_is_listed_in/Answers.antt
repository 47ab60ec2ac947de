use Rattle.build_expressions.proofs.BrokenLaws.{broken-listed-in}
use Rattle.build_expressions.proofs.laws.broken_is_listed_in.Goals as goal

pub returns : goal.returns
returns c = broken-listed-in
