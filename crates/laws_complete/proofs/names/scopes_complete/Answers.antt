use Rattle.laws_complete.proofs.SeenLemmas.{scopes-complete}
use Rattle.laws_complete.proofs.names.scopes_complete.Goals as goal

pub returns : goal.returns
returns c = scopes-complete
