-- Expiries follow their sets: a lemma says so.
use Rattle.laws_timers.proofs.Followed.{expiries_follow_sets}
use Rattle.laws_timers.proofs.laws.expiries_follow_sets.Goals as goal

pub returns : goal.returns
returns c = expiries_follow_sets
