use Rattle.sdl_tree.proofs.ExampleLemmas.{one_chain, not_in_another, negates_first}
use Rattle.sdl_tree.proofs.laws.groups_operators.Goals as goal

pub returns : goal.returns
returns c = record { one_chain = one_chain; not_nested = not_in_another; negated = negates_first }
