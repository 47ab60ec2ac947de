use Rattle.sdl_system.proofs.BodyLemmas.{Ends-first}
use Rattle.sdl_system.proofs.laws.ends_first.Goals as goal

pub returns : goal.returns
returns c = Ends-first
