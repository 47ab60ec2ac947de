use Rattle.laws_sound_runs.proofs.CauseLemmas.{conditions-ask-unassigned}
use Rattle.laws_sound_runs.proofs.laws.conditions_ask_unassigned.Goals as goal

pub returns : goal.returns
returns c = conditions-ask-unassigned
