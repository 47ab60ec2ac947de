-- The steps part into sweeps: a lemma says so.
use Rattle.laws_one_report.proofs.SweepLemmas.{steps_are_sweeps}
use Rattle.laws_one_report.proofs.sweeps.steps_are_sweeps.Goals as goal

pub returns : goal.returns
returns c = steps_are_sweeps
