use Rattle.laws_sound_runs.proofs.KindLemmas.{terms-have-kinds}
use Rattle.laws_sound_runs.proofs.terms.terms_have_kinds.Goals as goal

pub returns : goal.returns
returns c = terms-have-kinds
