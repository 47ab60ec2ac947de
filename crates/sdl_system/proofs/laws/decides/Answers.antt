use Rattle.sdl_system.proofs.WalkLemmas.{decides}
use Rattle.sdl_system.proofs.laws.decides.Goals as goal

pub returns : goal.returns
returns c = decides
