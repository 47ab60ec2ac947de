-- Each serial report is whole or cut (Z.101: system).
use Rattle.std.specs.Prelude.{ℕ, List, ◌⊎◌, Contains}
use Rattle.port_model.specs.declared.values.item.SignalId.{SignalId}
use Rattle.port_model.specs.declared.values.pid.Pid.TheVariants.{Of}
use Rattle.port_model.specs.declared.values.value.Value.{Value}
use Rattle.run_record.specs.Event as event
use Rattle.run_record.specs.Record.{RecordValue}
use Rattle.run_record.specs.declared.record.Report.{Report}
use Rattle.run_semantics.specs.Behaves.{AreBehaviours}
use Rattle.sdl_script.specs.declared.script.ScriptLine.{ScriptLine}
use Rattle.sdl_system.specs.Behaviour.{Behaviour}
use Rattle.sdl_system.specs.System.{SystemValue}
use Rattle.sdl_system.specs.declared.route.Dest.TheVariants as dest
use Rattle.sdl_system.specs.declared.route.Target.TheVariants.{Instance}
use Rattle.serial_order.specs.Laws.{AreFromEnv}
use Rattle.serial_order.specs.Report.{IsSerialReport}
use Rattle.settle_meaning.specs.Puts.{Heard, IsNamed}
use Rattle.settle_meaning.specs.Report.{IsReported, IsWholeOrCut}

-- The report of a serial run is whole or cut, in the same words as that of a run on several threads: of each instance
-- there is a record, each record is a run on a legal history of its port, and nothing was lost that was sent. The
-- signals of the script come from the environment.
abbrev pub SerialReportsAreWholeOrCut : Type 0
SerialReportsAreWholeOrCut =
    (ps : List Behaviour) (system : SystemValue) (lines : List ScriptLine) (limit : ℕ) (report : Report)
    → AreBehaviours system ps → AreFromEnv lines → IsSerialReport ps system lines limit report
    → IsWholeOrCut ps system lines limit report

-- an output of a record names the instance by its Pid, and reaches it
pub record IsOutputTo (records : List RecordValue) (number : ℕ) : Type 0 where
  pub trace : RecordValue
  pub among : Contains records trace
  pub signal : SignalId
  pub values : List Value
  pub sent : Contains trace.events (event.Output signal (dest.Pid (Of number)) values (Instance number))

-- the script names the number, or an output does
abbrev pub IsNamedIn : List RecordValue → List Heard → ℕ → Type 0
IsNamedIn records heard number = IsNamed heard number ⊎ IsOutputTo records number

-- Signals are missing only to a number that the script names, or that an output names by its Pid: no route leads to an
-- instance that isn't there.
abbrev pub EachMissingIsNamed : Type 0
EachMissingIsNamed =
    (ps : List Behaviour) (system : SystemValue) (lines : List ScriptLine) (limit : ℕ) (report : Report)
    → AreBehaviours system ps → AreFromEnv lines → IsSerialReport ps system lines limit report
    → IsReported (IsNamedIn report.records.items) ps system lines limit report
