use Rattle.sdl_system.proofs.BodyLemmas.{Has-followed}
use Rattle.sdl_system.proofs.laws.has_followed.Goals as goal

pub returns : goal.returns
returns c = Has-followed
