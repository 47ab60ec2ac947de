use Rattle.build_states.proofs.FirstLemmas.{first_mention}
use Rattle.build_states.proofs.laws.first_mention_counts.Goals as goal

pub returns : goal.returns
returns c = first_mention
