use Rattle.sdl_system.proofs.GrowLemmas.{HasParts-grows}
use Rattle.sdl_system.proofs.laws.has_parts_grows.Goals as goal

pub returns : goal.returns
returns c = HasParts-grows
