use Rattle.laws_broken.proofs.StartLaws.{initial-counted}
use Rattle.laws_broken.proofs.instances.initial_is_counted.Goals as goal

pub returns : goal.returns
returns c = initial-counted
