use Rattle.sdl_system.proofs.WalkLemmas.{opens_place}
use Rattle.sdl_system.proofs.laws.opens_places.Goals as goal

pub returns : goal.returns
returns c = opens_place
