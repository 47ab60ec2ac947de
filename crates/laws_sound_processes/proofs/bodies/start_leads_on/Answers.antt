use Rattle.laws_sound_processes.proofs.StartLemmas.{start-leads-on}
use Rattle.laws_sound_processes.proofs.bodies.start_leads_on.Goals as goal

pub returns : goal.returns
returns c = start-leads-on
