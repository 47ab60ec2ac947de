-- A sweep begins as the run begins, and as the clock has moved: lemmas say so.
use Rattle.laws_one_report.proofs.SweepLemmas.{beginning_begins_sweep, ticks_begin_sweep}
use Rattle.laws_one_report.proofs.sweeps.sweeps_begin.Goals as goal

pub returns : goal.returns
returns c = record { beginning = beginning_begins_sweep; ticks = ticks_begin_sweep }
