use Rattle.sdl_system.proofs.BodyLemmas.{label-followed}
use Rattle.sdl_system.proofs.laws.label_followed.Goals as goal

pub returns : goal.returns
returns c = label-followed
