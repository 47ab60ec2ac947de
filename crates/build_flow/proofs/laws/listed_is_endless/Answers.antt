use Rattle.build_flow.proofs.EndlessLaws.{listed-endless}
use Rattle.build_flow.proofs.laws.listed_is_endless.Goals as goal

pub returns : goal.returns
returns c = listed-endless
