use Rattle.laws_broken.proofs.BodyLaws.{broken-listed}
use Rattle.laws_broken.proofs.bodies.broken_is_listed.Goals as goal

pub returns : goal.returns
returns c = broken-listed
