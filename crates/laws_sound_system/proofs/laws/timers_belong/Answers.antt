use Rattle.laws_sound_system.proofs.SystemLemmas.{timers-belong}
use Rattle.laws_sound_system.proofs.laws.timers_belong.Goals as goal

pub returns : goal.returns
returns c = timers-belong
