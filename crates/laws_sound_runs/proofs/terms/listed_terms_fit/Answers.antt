use Rattle.laws_sound_runs.proofs.KindLemmas.{listed-terms-fit}
use Rattle.laws_sound_runs.proofs.terms.listed_terms_fit.Goals as goal

pub returns : goal.returns
returns c = listed-terms-fit
