-- One report for all behaviours: a lemma says so.
use Rattle.laws_one_report.proofs.Reports.{one_report_of_all}
use Rattle.laws_one_report.proofs.laws.one_report_of_all.Goals as goal

pub returns : goal.returns
returns c = one_report_of_all
