-- No timer is due at the end of a whole run: a lemma says so.
use Rattle.laws_timers.proofs.Covered.{no_timer_is_due}
use Rattle.laws_timers.proofs.laws.no_timer_is_due.Goals as goal

pub returns : goal.returns
returns c = no_timer_is_due
