use Rattle.laws_sound_runs.proofs.KindLemmas.{placed-terms-fit}
use Rattle.laws_sound_runs.proofs.terms.placed_terms_fit.Goals as goal

pub returns : goal.returns
returns c = placed-terms-fit
