use Rattle.laws_broken.proofs.BodyLaws.{listed-broken}
use Rattle.laws_broken.proofs.bodies.listed_is_broken.Goals as goal

pub returns : goal.returns
returns c = listed-broken
