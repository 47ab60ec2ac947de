-- The run ends when it is to.
use Rattle.std.proofs.Common.{◌≡◌, ◌∙◌, ◌++◌, ◌≤◌, ◌<◌, ap, append-nil, arith, refl, subst, sym, take, take_at, ℕ, Bool, true, false, List, length}
use Rattle.laws_creates.proofs.Ends.{ends_are_not_before}
use Rattle.laws_whole.proofs.Counting.{transitions_are}
use Rattle.laws_whole.proofs.Hearing.{all_send, heard_of, signals_are}
use Rattle.run_record.specs.Record.{RecordValue}
use Rattle.run_record.specs.declared.record.Report.{Report}
use Rattle.run_semantics.specs.Behaves.{AreBehaviours}
use Rattle.sdl_script.specs.Script.{end_of}
use Rattle.sdl_script.specs.declared.script.ScriptLine.{ScriptLine}
use Rattle.sdl_system.specs.Behaviour.{Behaviour}
use Rattle.sdl_system.specs.System.{SystemValue}
use Rattle.serial_order.specs.Execution.{transitions_of}
use Rattle.serial_order.specs.Laws.{EachIsTold, LinesAreHeard}
use Rattle.serial_order.specs.Report as serial
use Rattle.serial_order.specs.Report.{IsSerialReport}
use Rattle.serial_order.specs.Told.{lines_of}
use Rattle.settle_meaning.specs.Closed.{Ends, transitions}
use Rattle.settle_meaning.specs.Puts.{signals_heard, signals_of}

module _ (ps : List Behaviour) (system : SystemValue) (lines : List ScriptLine) (limit : ℕ) (report : Report)
    (behaviours : AreBehaviours system ps) (run : IsSerialReport ps system lines limit report)
    (each_told : EachIsTold) (lines_heard : LinesAreHeard) where
  abbrev records : List RecordValue
  records = report.records.items

  heard_are : signals_heard (heard_of run.happenings) ≡ signals_of (lines_of run.happenings)
  heard_are =
      signals_are run.happenings (all_send ps system lines (end_of lines) run.happenings run.execution)

  parts : lines_of run.happenings ++ run.last.script ≡ lines
  parts = lines_heard ps system lines (end_of lines) run.happenings run.last behaviours run.execution

  count : transitions records ≡ transitions_of run.happenings
  count = transitions_are ps system lines limit report behaviours run each_told

  -- the lines that are heard are the first ones
  front : take (length (lines_of run.happenings)) lines ≡ lines_of run.happenings
  front =
      ap (λ (l : List ScriptLine). take (length (lines_of run.happenings)) l) (sym parts)
      ∙ take_at (lines_of run.happenings) run.last.script (length (lines_of run.happenings)) refl

  by_whole : (whole : Bool) → report.whole ≡ whole
      → serial.Ends whole ps lines limit run.happenings run.last report.end
      → Ends whole lines limit (heard_of run.happenings) records report.end
  by_whole true is ends =
      let all : lines_of run.happenings ≡ lines =
      sym (append-nil (lines_of run.happenings))
      ∙ ap (λ (l : List ScriptLine). lines_of run.happenings ++ l) (sym ends.heard) ∙ parts in
      record {
        fewer = subst (λ n. n < limit) (sym count) ends.fewer;
        heard_all = heard_are ∙ ap (λ (l : List ScriptLine). signals_of l) all;
        is_end = ends.is_end;
      }
  by_whole false is ends = record {
    as_many = subst (λ n. limit ≤ n) (sym (count ∙ ends.as_many)) (omega arith);
    line = length (lines_of run.happenings);
    heard_first = heard_are ∙ ap (λ (l : List ScriptLine). signals_of l) (sym front);
    not_before = ends_are_not_before ps system lines limit report run (λ whole. absurd (differ (sym whole ∙ is)));
  } where
    differ : true ≡ false → ⊥
    differ same = cc

  pub ends_so : Ends report.whole lines limit (heard_of run.happenings) records report.end
  ends_so = by_whole report.whole refl run.ends
