use Rattle.laws_sound_system.proofs.SystemLemmas.{built-runs-lead-to-states}
use Rattle.laws_sound_system.proofs.laws.built_runs_lead_to_states.Goals as goal

pub returns : goal.returns
returns c = built-runs-lead-to-states
