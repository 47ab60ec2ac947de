-- What two executions of a system, and two serial reports, have in common (Z.101: system).
use Rattle.std.specs.Prelude.{◌≡◌, ℕ, List, [], All, length, map}
use Rattle.port_model.specs.Ends.{single}
use Rattle.run_semantics.specs.Behaves.{AreBehaviours}
use Rattle.serial_order.specs.Execution.{Execution, Expired, Happening, Heard, Moved, Ticked}
use Rattle.serial_order.specs.RunState.{RunState}
use Rattle.serial_order.specs.Report.{IsSerialReport}
use Rattle.sdl_interp.specs.Instance.{InstanceValue}
use Rattle.run_record.specs.Record.{RecordValue, with_room}
use Rattle.sdl_report.specs.ReportText.{report_text}
use Rattle.run_record.specs.declared.record.Report.{Report}
use Rattle.run_semantics.specs.Effect.{Deed}
use Rattle.sdl_script.specs.Script.{IsScript}
use Rattle.sdl_script.specs.declared.script.ScriptLine.{ScriptLine}
use Rattle.sdl_system.specs.Behaviour.{Behaviour}
use Rattle.sdl_system.specs.System.{SystemValue}
use Rattle.laws_one_step.specs.Unique.{LackNothing}

-- ---- what is the same

-- an instance with its port alone: what else its owner may know of it decides nothing
abbrev pub bare : InstanceValue → InstanceValue
bare i = record i { owner = single i.owner.pid i.owner.state [] }

abbrev pub bare_whole : RunState → RunState
bare_whole g = record g { instances = map bare g.instances }

-- a deed without its calls: a take is told with the list of its classes, and several lists give each name the same one
abbrev pub uncalled : Deed → Deed
uncalled deed = record deed { calls = [] }

abbrev pub uncalled_one : Happening → Happening
uncalled_one (Moved who deeds) = Moved who (map uncalled deeds)
uncalled_one (Expired fuse) = Expired fuse
uncalled_one (Heard line effects) = Heard line effects
uncalled_one (Ticked time) = Ticked time

-- the same happened, and the whole is in the same state
pub record AreSame (happenings others : List Happening) (last end : RunState) : Type 0 where
  pub happened : map uncalled_one happenings ≡ map uncalled_one others
  pub whole : bare_whole last ≡ bare_whole end

-- ---- executions

-- no instance failed for lack of memory
abbrev pub LacksNothing : RunState → Type 0
LacksNothing g = All (λ (i : InstanceValue). LackNothing i.events) g.instances

-- Two executions from one state, as long as each other, are the same.
abbrev pub ExecutionsAgree : Type 0
ExecutionsAgree =
    (ps : List Behaviour) (time : ℕ) (from : RunState) (happenings others : List Happening) (last end : RunState)
    → Execution ps time from happenings last → Execution ps time from others end → LacksNothing last → LacksNothing end
    → length happenings ≡ length others → AreSame happenings others last end

-- ---- reports

abbrev pub ReportLacksNothing : Report → Type 0
ReportLacksNothing report = All (λ (trace : RecordValue). LackNothing trace.events) report.records.items

-- a record as its readers see it: who the instance is, who created it, and its events
abbrev pub read : RecordValue → RecordValue
read trace = with_room trace 0 0

pub record IsSameReport (one other : Report) : Type 0 where
  pub records : map read one.records.items ≡ map read other.records.items
  pub end : one.end ≡ other.end
  pub whole : one.whole ≡ other.whole

-- two serial reports of one system, script and limit, in which no memory was wanting
pub record AreOfOneRun (ps : List Behaviour) (system : SystemValue) (lines : List ScriptLine) (limit : ℕ)
    (one other : Report) : Type 0 where
  pub script : IsScript system lines
  pub first : IsSerialReport ps system lines limit one
  pub second : IsSerialReport ps system lines limit other
  pub first_lacks : ReportLacksNothing one
  pub second_lacks : ReportLacksNothing other

-- They are the same.
abbrev pub OneReport : Type 0
OneReport =
    (ps : List Behaviour) (system : SystemValue) (lines : List ScriptLine) (limit : ℕ) (one other : Report)
    → AreOfOneRun ps system lines limit one other → IsSameReport one other

-- And so is their text.
abbrev pub OneText : Type 0
OneText =
    (ps : List Behaviour) (system : SystemValue) (lines : List ScriptLine) (limit : ℕ) (one other : Report)
    → AreOfOneRun ps system lines limit one other → report_text system one ≡ report_text system other

-- ---- whatever behaviours

-- A report that is in serial order for all behaviours that the processes of the system mean, as that of a run is.
abbrev pub IsReportOfAll : SystemValue → List ScriptLine → ℕ → Report → Type 0
IsReportOfAll system lines limit report =
    (ps : List Behaviour) → AreBehaviours system ps → IsSerialReport ps system lines limit report

-- a report that is one for all behaviours, and two others, each for behaviours of its own; no memory was wanting
pub record AreOfOneSystem (ps qs : List Behaviour) (system : SystemValue) (lines : List ScriptLine) (limit : ℕ)
    (of_all one other : Report) : Type 0 where
  pub script : IsScript system lines
  pub first_meant : AreBehaviours system ps
  pub second_meant : AreBehaviours system qs
  pub all : IsReportOfAll system lines limit of_all
  pub first : IsSerialReport ps system lines limit one
  pub second : IsSerialReport qs system lines limit other
  pub all_lacks : ReportLacksNothing of_all
  pub first_lacks : ReportLacksNothing one
  pub second_lacks : ReportLacksNothing other

-- The two are the same: which of the behaviours is taken makes no difference, once there is a report of a run.
abbrev pub OneReportOfAll : Type 0
OneReportOfAll =
    (ps qs : List Behaviour) (system : SystemValue) (lines : List ScriptLine) (limit : ℕ) (of_all one other : Report)
    → AreOfOneSystem ps qs system lines limit of_all one other
    → IsSameReport one other × (report_text system one ≡ report_text system other)
