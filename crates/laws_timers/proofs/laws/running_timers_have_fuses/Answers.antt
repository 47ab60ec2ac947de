-- Timers that run have their fuses: a lemma says so.
use Rattle.laws_timers.proofs.Covered.{running_timers_have_fuses}
use Rattle.laws_timers.proofs.laws.running_timers_have_fuses.Goals as goal

pub returns : goal.returns
returns c = running_timers_have_fuses
