use Rattle.sdl_tree.proofs.WrittenDefinitions.{canonical_spells}
use Rattle.sdl_tree.proofs.laws.canonical_spells.Goals as goal

pub returns : goal.returns
returns c = canonical_spells
