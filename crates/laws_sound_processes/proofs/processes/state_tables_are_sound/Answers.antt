use Rattle.laws_sound_processes.proofs.TableLemmas.{state-tables-are-sound}
use Rattle.laws_sound_processes.proofs.processes.state_tables_are_sound.Goals as goal

pub returns : goal.returns
returns c = state-tables-are-sound
