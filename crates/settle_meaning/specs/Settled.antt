-- Settled reports: what a run with workers promises of its report, whatever the schedule was (Z.101: system).
use Rattle.std.specs.Prelude.{◌≡◌, ◌⊎◌, ◌++◌, ◌∷◌, ℕ, Bool, true, false, List, [], All}
use Rattle.port_model.specs.History.{IsLegal, PortEvent, Take}
use Rattle.port_model.specs.Port.{PortState, empty_port}
use Rattle.port_model.specs.declared.selection.Class.{Class}
use Rattle.port_model.specs.declared.taken.Taken.TheVariants.{Nothing}
use Rattle.port_model.specs.declared.values.value.Value.{Value}
use Rattle.run_record.specs.Event.{Event}
use Rattle.run_record.specs.Record.{RecordValue}
use Rattle.run_record.specs.declared.record.Report.{Report}
use Rattle.run_semantics.specs.Behaves.{AreBehaviours}
use Rattle.sdl_script.specs.declared.script.ScriptLine.{ScriptLine}
use Rattle.sdl_system.specs.Behaviour.{Behaviour}
use Rattle.sdl_system.specs.System.{SystemValue}
use Rattle.settle_meaning.specs.Closed.{AreBy, EndsIn, Ends, IsEnd}
use Rattle.settle_meaning.specs.Given.{AreGiven}
use Rattle.settle_meaning.specs.Histories.{puts_of}
use Rattle.settle_meaning.specs.Identities.{AreMade, HasCause}
use Rattle.settle_meaning.specs.Living.{AreMeant}
use Rattle.settle_meaning.specs.Order.{AreInOrder}
use Rattle.settle_meaning.specs.Puts.{Heard, IsHeardRight, IsNamed}
use Rattle.settle_meaning.specs.Report.{HasHistory}
use Rattle.settle_meaning.specs.Starts.{AreStarted, AreWithin}
use Rattle.settle_meaning.specs.Timers.{AreDue}
use Rattle.settle_meaning.specs.Times.{AreRisingFrom, latest}

-- ---- one record

-- The last take of the owner found nothing, and what came after it has changed nothing: the port is as it was then.
pub record StaysAtRest (history : List PortEvent) (port : PortState) : Type 0 where
  pub before : List PortEvent
  pub classes : List Class
  pub later : List PortEvent
  pub was : history ≡ before ++ Take classes Nothing ∷ later
  pub same : IsLegal empty_port (before ++ Take classes Nothing ∷ []) port

-- in a whole run the instance has ended or rests so; a run that is cut asks for nothing
abbrev pub RestsAsItEnds : Bool → List Event → List PortEvent → PortState → Type 0
RestsAsItEnds true events history port = EndsIn IsEnd events ⊎ StaysAtRest history port
RestsAsItEnds false events history port = Unit {0}

-- The record has a history, as each report's does. What was put is taken in order, the instance began with the values
-- that it was given, and if it rests it stays at rest.
pub record IsSettledOne (ps : List Behaviour) (system : SystemValue) (lines : List ScriptLine) (heard : List Heard)
    (given : ℕ → List Value) (whole : Bool) (end : ℕ) (records : List RecordValue) (trace : RecordValue)
    : Type 0 where
  pub has : HasHistory (IsNamed heard) ps system heard whole end records trace
  pub given_are : AreGiven given trace has.run.values has.run.deeds
  pub in_order : AreInOrder lines heard records trace (puts_of has.history)
  pub rests : RestsAsItEnds whole trace.events has.history has.port

-- ---- the report

-- a report that is cut ends at the latest time of all events
abbrev pub IsEndOf : Bool → List RecordValue → ℕ → Type 0
IsEndOf true records end = Unit {0}
IsEndOf false records end = end ≡ latest records

-- What the records say, whatever the processes mean: these signals of the script were heard.
pub record AreAccounted (system : SystemValue) (lines : List ScriptLine) (limit : ℕ) (report : Report)
    (heard : List Heard) : Type 0 where
  -- each instance has a record, and there is no other; a create gives null only for a cause
  pub made : AreMade system report.records.items
  pub nulls : All (λ (trace : RecordValue). All (HasCause system report.records.items) trace.events)
      report.records.items
  -- instances start as they are created, and no more of a process live on than may
  pub started : AreStarted report.records.items
  pub within : AreWithin system report.records.items
  -- signals go where the routes lead them
  pub outputs : All (AreMeant system report.records.items) report.records.items
  pub signals : All (IsHeardRight system report.records.items) heard
  -- in each record times never fall, no signal of a timer is taken before its time, and nothing happens past the end
  pub rising : All (λ (trace : RecordValue). AreRisingFrom 0 trace.events) report.records.items
  pub due : All (λ (trace : RecordValue). AreDue trace.events) report.records.items
  pub ended : All (AreBy report.end) report.records.items
  -- and the run ends when it is to
  pub ends : Ends report.whole lines limit heard report.records.items report.end
  pub is_end : IsEndOf report.whole report.records.items report.end

-- A report of a system on a script, with this limit of transitions, is settled. What is said of the records holds for all
-- behaviours that the processes of the system mean.
pub record IsSettledReport (system : SystemValue) (lines : List ScriptLine) (limit : ℕ) (report : Report) : Type 0 where
  pub heard : List Heard
  pub accounted : AreAccounted system lines limit report heard
  -- for the number of each instance the values with which its parameters begin
  pub given : ℕ → List Value
  pub each : (ps : List Behaviour) → AreBehaviours system ps
      → All (IsSettledOne ps system lines heard given report.whole report.end report.records.items)
      report.records.items
