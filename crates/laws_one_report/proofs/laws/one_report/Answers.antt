-- One report and one text: lemmas say so.
use Rattle.laws_one_report.proofs.Reports.{one_report, one_text}
use Rattle.laws_one_report.proofs.laws.one_report.Goals as goal

pub returns : goal.returns
returns c = record { report = one_report; text = one_text }
