-- How a run is told: by its report, or in its order.
use Rattle.std.specs.Prelude.{◌≡◌, ℕ, Bool, List, Option, None, Some, count_by, is_some}
use Rattle.run_record.specs.declared.record.Report.{Report}
use Rattle.sdl_report.specs.ReportText.{report_text}
use Rattle.sdl_script.specs.declared.script.ScriptLine.{ScriptLine}
use Rattle.sdl_system.specs.System.{SystemValue}
use Rattle.view_text.specs.JsonText.{json_text}
use Rattle.view_text.specs.LinesText.{lines_text}
use Rattle.view_run.specs.Order.{IsOrderBy, lost_to}
use Rattle.view_run.specs.declared.order_log.OrderLog.{OrderLog}
use Rattle.view_timeline.specs.declared.moves.Timeline.{Timeline}
use Rattle.sdl_engine.specs.declared.options.View.{View}
use Rattle.sdl_engine.specs.declared.options.View.TheVariants as views

-- ---- the script

-- whether the environment sends a signal by this line
abbrev pub has_signal : ScriptLine → Bool
has_signal line = is_some line.signal

-- how many signals it sends
abbrev pub signals_of : List ScriptLine → ℕ
signals_of lines = count_by has_signal lines

-- ---- the order

-- the order in which a run is told, by what was kept of it
abbrev pub IsOrderOf : Option OrderLog → Option ℕ → SystemValue → List ScriptLine → Report → Timeline → Type 0
IsOrderOf None stuck system lines report told = ⊥
IsOrderOf (Some log) stuck system lines report told = IsOrderBy log stuck system lines report told

-- ---- the text

-- This is the text of the order of a run of which this was kept, as far as it goes: up to the instance that can't go on,
-- if one can't.
pub record IsInOrder (log : Option OrderLog) (system : SystemValue) (lines : List ScriptLine) (report : Report)
    (text_of : Timeline → List ℕ) (stuck : Option ℕ) (text : List ℕ) : Type 0 where
  pub told : Timeline
  pub is_order : IsOrderOf log stuck system lines report told
  pub says : text ≡ text_of told

-- The text tells the report of a run on a script of these lines, of which this was kept. In its order it says which
-- signals of the script nobody took, and which instance can't go on, if one can't; the report has no order.
abbrev pub IsTold : View → Option OrderLog → SystemValue → Report → List ScriptLine → Option ℕ → List ℕ → Type 0
IsTold views.Trace log system report lines stuck text = text ≡ report_text system report
IsTold views.Lines log system report lines stuck text =
    IsInOrder log system lines report
    (λ told. lines_text system report told stuck (signals_of lines) (lost_to stuck system report told lines)) stuck text
IsTold views.Json log system report lines stuck text =
    IsInOrder log system lines report
    (λ told. json_text system report told stuck (lost_to stuck system report told lines)) stuck text
