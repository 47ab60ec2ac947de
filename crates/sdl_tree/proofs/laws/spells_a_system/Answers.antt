use Rattle.sdl_tree.proofs.ExampleLemmas.{system_spelled, system_written}
use Rattle.sdl_tree.proofs.laws.spells_a_system.Goals as goal

pub returns : goal.returns
returns c = record { spelled = system_spelled; written = system_written }
