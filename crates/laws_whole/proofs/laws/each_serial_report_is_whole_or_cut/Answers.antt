-- Each serial report is whole or cut: a lemma says so, by the laws of serial runs and of histories.
use Rattle.laws_whole.proofs.Whole.{Laws, each_missing_is_named, serial_reports}
use Rattle.laws_whole.proofs.laws.each_serial_report_is_whole_or_cut.Goals as goal

pub returns : goal.returns
returns c =
    let laws : Laws = record {
      told = c.each_is_told.ensures;
      matched = c.each_is_matched.ensures;
      lines_heard = c.lines_are_heard.ensures;
      in_time = c.expiries_are_due.ensures.ports;
      not_due = c.no_timer_is_due.ensures;
      legal = c.runs_are_legal.ensures;
      sets = c.expiries_have_sets.ensures;
    } in
    record { whole = serial_reports laws; named = each_missing_is_named laws }
