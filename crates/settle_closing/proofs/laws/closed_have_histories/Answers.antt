-- What is left of an instance has a history of its port: a lemma says so, by the laws of runs and histories.
use Rattle.settle_closing.proofs.ClosedLemmas.{closed_have_histories as law}
use Rattle.settle_closing.proofs.laws.closed_have_histories.Goals as goal

pub returns : goal.returns
returns c =
    law c.runs_are_legal.ensures c.runs_hear_what_is_drawn.ensures c.rests_are_for_good.ensures
    c.quiet_draws_change_nothing.ensures c.stopped_stays.ensures c.expiries_have_sets.ensures c.puts_come_from_outside.ensures
