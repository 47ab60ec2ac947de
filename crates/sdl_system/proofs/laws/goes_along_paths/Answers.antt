use Rattle.sdl_system.proofs.RouteLemmas.{goes_along_paths}
use Rattle.sdl_system.proofs.laws.goes_along_paths.Goals as goal

pub returns : goal.returns
returns c = goes_along_paths
