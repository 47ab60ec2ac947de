use Rattle.sdl_print.proofs.RoundTripLemmas.{canonical_lexes}
use Rattle.sdl_print.proofs.laws.canonical_lexes.Goals as goal

pub returns : goal.returns
returns c = canonical_lexes
