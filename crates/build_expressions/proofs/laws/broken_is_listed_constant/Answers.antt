use Rattle.build_expressions.proofs.ConstantLaws.{broken-listed-constant}
use Rattle.build_expressions.proofs.laws.broken_is_listed_constant.Goals as goal

pub returns : goal.returns
returns c = broken-listed-constant
