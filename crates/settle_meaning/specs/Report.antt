-- Whole and cut reports: in what a run did nothing was lost and nothing was made up (Z.101: system).
use Rattle.std.specs.Prelude.{ℕ, Bool, List, All}
use Rattle.port_model.specs.History.{IsLegal, PortEvent}
use Rattle.port_model.specs.Port.{PortState, empty_port}
use Rattle.run_record.specs.Record.{RecordValue}
use Rattle.run_record.specs.declared.record.Report.{Report}
use Rattle.sdl_script.specs.declared.script.ScriptLine.{ScriptLine}
use Rattle.sdl_system.specs.Behaviour.{Behaviour}
use Rattle.sdl_system.specs.System.{SystemValue}
use Rattle.settle_meaning.specs.Closed.{ClosesAs, Ends}
use Rattle.settle_meaning.specs.Histories.{HaveSets, IsInTime, IsRunOn, puts_of}
use Rattle.settle_meaning.specs.Identities.{AreMade, HasCause}
use Rattle.settle_meaning.specs.Living.{AreMeant}
use Rattle.settle_meaning.specs.Puts.{ArePut, Heard, IsHeardRight, IsNamed}

-- The record of an instance has a legal history of its port, on which it is a run. What was put there was sent there,
-- and what was sent is put. Each expiry is at its due time or later, and of a timer that was set. The record closes as
-- the report says.
pub record HasHistory (Known : ℕ → Type 0) (ps : List Behaviour) (system : SystemValue) (heard : List Heard)
    (whole : Bool) (end : ℕ) (records : List RecordValue) (trace : RecordValue) : Type 0 where
  pub history : List PortEvent
  pub port : PortState
  pub legal : IsLegal empty_port history port
  pub run : IsRunOn ps system trace history port
  pub put : ArePut Known heard records trace (puts_of history)
  pub in_time : All IsInTime history
  pub sets : HaveSets history
  pub closes : ClosesAs whole end trace.events history port

-- A report of a system on a script, with this limit of transitions; `ps` are the behaviours of its processes. To which
-- numbers signals may be sent that nobody has yet is for the run to say.
pub record IsReported (Known : List Heard → ℕ → Type 0) (ps : List Behaviour) (system : SystemValue)
    (lines : List ScriptLine) (limit : ℕ) (report : Report) : Type 0 where
  -- the signals of the script that were sent, each with where it went
  pub heard : List Heard
  -- each instance has a record, and there is no other
  pub made : AreMade system report.records.items
  -- a create gives null only for a cause
  pub nulls : All (λ (trace : RecordValue). All (HasCause system report.records.items) trace.events)
      report.records.items
  -- each record is a run on a history of its port, into which all was put that was sent there
  pub each : All (HasHistory (Known heard) ps system heard report.whole report.end report.records.items)
      report.records.items
  -- signals go where the routes lead them
  pub outputs : All (AreMeant system report.records.items) report.records.items
  pub signals : All (IsHeardRight system report.records.items) heard
  -- and the run ends when it is to
  pub ends : Ends report.whole lines limit heard report.records.items report.end

-- The report is whole or cut.
abbrev pub IsWholeOrCut : List Behaviour → SystemValue → List ScriptLine → ℕ → Report → Type 0
IsWholeOrCut ps system lines limit report = IsReported (λ heard number. Unit {0}) ps system lines limit report

-- It is whole or cut, and signals are missing only to numbers that the script names.
abbrev pub IsSettled : List Behaviour → SystemValue → List ScriptLine → ℕ → Report → Type 0
IsSettled ps system lines limit report = IsReported IsNamed ps system lines limit report
