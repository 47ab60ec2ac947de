use Rattle.laws_broken.proofs.DefinitionLaws.{broken-listed}
use Rattle.laws_broken.proofs.definitions.broken_is_listed.Goals as goal

pub returns : goal.returns
returns c = broken-listed
