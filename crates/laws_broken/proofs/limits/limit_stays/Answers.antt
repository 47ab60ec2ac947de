use Rattle.laws_broken.proofs.LimitLaws.{limit-stays}
use Rattle.laws_broken.proofs.limits.limit_stays.Goals as goal

pub returns : goal.returns
returns c = limit-stays
