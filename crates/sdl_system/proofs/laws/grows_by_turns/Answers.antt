use Rattle.sdl_system.proofs.GrowLemmas.{grows-trans}
use Rattle.sdl_system.proofs.laws.grows_by_turns.Goals as goal

pub returns : goal.returns
returns c = grows-trans
