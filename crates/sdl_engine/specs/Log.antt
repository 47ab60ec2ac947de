-- What is kept of a run, so that its order can be told.
use Rattle.std.specs.Prelude.{◌≡◌, ℕ, List, Option, None, Some, length}
use Rattle.run_record.specs.declared.record.Report.{Report}
use Rattle.sdl_script.specs.declared.script.ScriptLine.{ScriptLine}
use Rattle.sdl_system.specs.Behaviour.{Behaviour}
use Rattle.sdl_system.specs.System.{SystemValue}
use Rattle.serial_run.specs.Told.{IsSerialRun}
use Rattle.settle_run.specs.Course.{HasRows}
use Rattle.view_run.specs.declared.order_log.OrderLog.{OrderLog}
use Rattle.view_run.specs.declared.order_log.OrderLog.TheVariants as log

-- A serial run told the events of these instances, one after the other.
abbrev pub AreTellersOf : List Behaviour → SystemValue → List ScriptLine → ℕ → Report → OrderLog → Type 0
AreTellersOf ps system lines limit report (log.Tellers tellers) =
    IsSerialRun ps system lines limit report (Some tellers.items)
AreTellersOf ps system lines limit report (log.Course course) = ⊥

-- the course of a run with workers: it has a row for each record
abbrev pub IsCourseOf : Report → OrderLog → Type 0
IsCourseOf report (log.Course course) = HasRows (length report.records.items) course
IsCourseOf report (log.Tellers tellers) = ⊥

-- what was kept of a run, by its workers
abbrev pub IsLogBy : Option ℕ → List Behaviour → SystemValue → List ScriptLine → ℕ → Report → OrderLog → Type 0
IsLogBy None ps system lines limit report kept = AreTellersOf ps system lines limit report kept
IsLogBy (Some workers) ps system lines limit report kept = IsCourseOf report kept

-- these words, as what is kept, if they are
abbrev pub IsLogOf : Option (List ℕ) → Option OrderLog → Type 0
IsLogOf None None = Unit {0}
IsLogOf (Some words) (Some (log.Tellers tellers)) = tellers.items ≡ words
IsLogOf words kept = ⊥
