use Rattle.sdl_system.proofs.BodyLemmas.{followed-assoc}
use Rattle.sdl_system.proofs.laws.followed_by_turns.Goals as goal

pub returns : goal.returns
returns c = followed-assoc
