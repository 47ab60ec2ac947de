-- Which run a finder tells.
use Rattle.std.specs.Prelude.{◌≡◌, ℕ, Bool, false, List, [], ◌∷◌, None, Option, Some, if◌then◌else◌}
use Rattle.run_order.specs.Chronicle.{Run, run_of, run_with}
use Rattle.run_order.specs.OneOrder.{EndsSo, IsBegunOrder, IsOneOrder}
use Rattle.run_order.specs.declared.chronicle.Ending.{Ending}
use Rattle.run_record.specs.Record.{RecordValue}
use Rattle.run_record.specs.declared.record.Report.{Report}
use Rattle.view_run.specs.declared.replay.finder.Finder.{Finder}
use Rattle.run_semantics.specs.Behaves.{AreBehaviours}
use Rattle.run_tracks.specs.Track.{TrackState, is_closing, time_of}
use Rattle.run_tracks.specs.Tracks.{at_number}
use Rattle.sdl_script.specs.declared.script.ScriptLine.{ScriptLine}
use Rattle.sdl_system.specs.Behaviour.{Behaviour}
use Rattle.sdl_system.specs.System.{SystemValue}

-- a run of a system on a script, and its report
pub record Job : Type 0 where
  pub run : Run
  pub report : Report

abbrev pub job_of : Finder → Job
job_of f = record { run = run_of f.chronicle; report = f.report.now }

abbrev pub job_with : SystemValue → List ScriptLine → Report → Job
job_with system lines report = record { run = run_with system lines; report = report }

-- The report is told in one order, in which the events are told of these instances.
abbrev pub IsOrderOf : Job → List ℕ → Type 0
IsOrderOf job tellers =
    (ps : List Behaviour) → AreBehaviours job.run.system ps
    → IsOneOrder ps job.run.system job.run.lines job.report tellers

-- A run of the system on the script begins so that the events are told of these instances.
abbrev pub IsPartOf : Job → List ℕ → Type 0
IsPartOf job tellers =
    (ps : List Behaviour) → AreBehaviours job.run.system ps → IsBegunOrder ps job.run.system job.run.lines tellers

-- so far it is told
abbrev pub IsEndOf : Job → Ending → Type 0
IsEndOf job ending =
    (ps : List Behaviour) → AreBehaviours job.run.system ps
    → EndsSo ps job.run.system job.run.lines job.report ending

-- ---- its records

-- the next event of a record begins a step at this time
abbrev pub IsStepAt : ℕ → Option TrackState → Type 0
IsStepAt now None = ⊥
IsStepAt now (Some t) = time_of t.next ≡ Some now

-- all of it is told
abbrev pub is_told : Option TrackState → Bool
is_told None = false
is_told (Some t) = is_closing t.next

-- the number of the first of these records of which events are left; 0 where none is
abbrev pub first_left : List TrackState → List RecordValue → ℕ
first_left tracks [] = 0
first_left tracks (one ∷ rest) = if is_told (at_number tracks one.pid) then first_left tracks rest else one.pid
