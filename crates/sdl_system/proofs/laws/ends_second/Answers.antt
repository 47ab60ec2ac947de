use Rattle.sdl_system.proofs.BodyLemmas.{Ends-second}
use Rattle.sdl_system.proofs.laws.ends_second.Goals as goal

pub returns : goal.returns
returns c = Ends-second
