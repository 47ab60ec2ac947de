use Rattle.sdl_tree.proofs.ExampleLemmas.{places_kept}
use Rattle.sdl_tree.proofs.laws.keeps_places.Goals as goal

pub returns : goal.returns
returns c = places_kept
