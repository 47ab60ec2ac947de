use Rattle.sdl_system.proofs.SoundnessLemmas.{states_have_tables}
use Rattle.sdl_system.proofs.laws.states_have_tables.Goals as goal

pub returns : goal.returns
returns c = states_have_tables
