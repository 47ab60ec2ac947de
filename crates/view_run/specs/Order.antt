-- The order in which a run is told.
use Rattle.std.specs.Prelude.{◌≡◌, ℕ, List, [], Option, None, Some}
use Rattle.run_record.specs.Record.{RecordValue}
use Rattle.run_record.specs.declared.record.Report.{Report}
use Rattle.view_run.specs.Finder.{IsOrderOf, IsPartOf, job_with}
use Rattle.sdl_script.specs.declared.script.ScriptLine.{ScriptLine}
use Rattle.sdl_system.specs.System.{SystemValue}
use Rattle.view_timeline.specs.Parts as parts
use Rattle.view_timeline.specs.Parts.{IsInOrderOf, StopsAt}
use Rattle.view_text.specs.Lost.{lost_of}
use Rattle.view_text.specs.Sending.{SendingValue}
use Rattle.view_timeline.specs.declared.moves.Timeline.{Timeline}
use Rattle.view_run.specs.declared.order_log.OrderLog.{OrderLog}
use Rattle.view_run.specs.declared.order_log.OrderLog.TheVariants as log

-- ---- on one thread

-- The events of these records are told of these instances, one after the other: each event once, and what is told is a
-- timeline. Of a transition they are told in parts only if something of another record comes between.
pub record IsToldIn (records : List RecordValue) (tellers : List ℕ) (told : Timeline) : Type 0 where
  pub each_once : parts.EachOnce records told.moves.items
  pub in_order : IsInOrderOf records tellers told
  pub says : parts.IsTimeline records told

-- so it is, or as far as the instance of this number, which can't go on
abbrev pub IsToldInTo : Option ℕ → List RecordValue → List ℕ → Timeline → Type 0
IsToldInTo None records tellers told = IsToldIn records tellers told
IsToldInTo (Some number) records tellers told = parts.IsStuck records tellers told number

-- ---- with workers

-- The report is told in one order of all: in it the events of these instances come one after the other, and some run of
-- the system on the script is so, with these records. Each event is told once, of a transition in parts if others come
-- between.
pub record IsToldInOrder (system : SystemValue) (lines : List ScriptLine) (report : Report) (told : Timeline)
    : Type 0 where
  pub tellers : List ℕ
  pub one_order : IsOrderOf (job_with system lines report) tellers
  pub in_order : IsInOrderOf report.records.items tellers told
  pub each_once : parts.EachOnce report.records.items told.moves.items
  pub says : parts.IsTimeline report.records.items told

-- Why it isn't told to its end. It stops before an event of the instance of this number, or records close, and events
-- of this instance are left. Or all events are told, but the run that is told isn't known to be that of the report; then
-- the number is 0.
pub data EndsAt (records : List RecordValue) (tellers : List ℕ) (told : Timeline) (number : ℕ) : Type 0 where
  stops : StopsAt records tellers told number → EndsAt records tellers told number
  all_told :
      parts.EachOnce records told.moves.items → IsInOrderOf records tellers told → number ≡ 0
      → EndsAt records tellers told number

-- The events of these instances, one after the other, begin a run of the system on the script. They are told as far as
-- the instance of this number.
pub record IsToldAsFar (system : SystemValue) (lines : List ScriptLine) (report : Report) (told : Timeline) (number : ℕ)
    : Type 0 where
  pub tellers : List ℕ
  pub a_run : IsPartOf (job_with system lines report) tellers
  pub ends : EndsAt report.records.items tellers told number
  pub says : parts.IsTimeline report.records.items told

abbrev pub IsToldTo : Option ℕ → SystemValue → List ScriptLine → Report → Timeline → Type 0
IsToldTo None system lines report told = IsToldInOrder system lines report told
IsToldTo (Some number) system lines report told = IsToldAsFar system lines report told number

-- ---- of either

-- The order in which a run is told, by what was kept of it. On one thread that is the order that was kept. With workers
-- some run of the system is made in it, whatever the course says.
abbrev pub IsOrderBy : OrderLog → Option ℕ → SystemValue → List ScriptLine → Report → Timeline → Type 0
IsOrderBy (log.Tellers tellers) stuck system lines report told =
    IsToldInTo stuck report.records.items tellers.items told
IsOrderBy (log.Course course) stuck system lines report told = IsToldTo stuck system lines report told

-- ---- the script

-- The signals of the script that nobody took. None is known if an instance can't go on.
abbrev pub lost_to : Option ℕ → SystemValue → Report → Timeline → List ScriptLine → List SendingValue
lost_to None system report told lines = lost_of system report told lines
lost_to (Some number) system report told lines = []
