use Rattle.sdl_system.proofs.GrowLemmas.{Has-grows}
use Rattle.sdl_system.proofs.laws.has_grows.Goals as goal

pub returns : goal.returns
returns c = Has-grows
