use Rattle.laws_broken.proofs.LimitLaws.{limit-first}
use Rattle.laws_broken.proofs.limits.limit_comes_first.Goals as goal

pub returns : goal.returns
returns c = limit-first
