use Rattle.sdl_tree.proofs.LawLemmas.{none_after_priority}
use Rattle.sdl_tree.proofs.laws.no_condition_on_priority.Goals as goal

pub returns : goal.returns
returns c = none_after_priority
