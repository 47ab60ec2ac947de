use Rattle.sdl_print.proofs.RoundTripLemmas.{canonical_spells_again}
use Rattle.sdl_print.proofs.laws.canonical_spells_again.Goals as goal

pub returns : goal.returns
returns c = canonical_spells_again c.alike_spell.ensures
