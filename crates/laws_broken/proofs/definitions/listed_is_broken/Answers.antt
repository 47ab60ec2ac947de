use Rattle.laws_broken.proofs.DefinitionLaws.{listed-broken}
use Rattle.laws_broken.proofs.definitions.listed_is_broken.Goals as goal

pub returns : goal.returns
returns c = listed-broken
