use Rattle.build_expressions.proofs.ConstantLaws.{listed-broken-constant}
use Rattle.build_expressions.proofs.laws.listed_is_broken_constant.Goals as goal

pub returns : goal.returns
returns c = listed-broken-constant
