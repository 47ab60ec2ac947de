use Rattle.sdl_tree.proofs.ExampleLemmas.{block_spelled, process_spelled, state_spelled, transition_spelled}
use Rattle.sdl_tree.proofs.laws.spells_each_form.Goals as goal

pub returns : goal.returns
returns c = record { block = block_spelled; process = process_spelled; state = state_spelled; transition = transition_spelled }
