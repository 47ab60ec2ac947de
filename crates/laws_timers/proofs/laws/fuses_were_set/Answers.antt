-- Fuses were set: a lemma says so.
use Rattle.laws_timers.proofs.Sets.{fuses_were_set}
use Rattle.laws_timers.proofs.laws.fuses_were_set.Goals as goal

pub returns : goal.returns
returns c = fuses_were_set
