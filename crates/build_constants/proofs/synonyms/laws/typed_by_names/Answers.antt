use Rattle.build_constants.proofs.NamedLemmas.{typed-by-names}
use Rattle.build_constants.proofs.synonyms.laws.typed_by_names.Goals as goal

pub returns : goal.returns
returns c = typed-by-names
