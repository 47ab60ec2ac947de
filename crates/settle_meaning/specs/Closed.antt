-- How the records of a report close, and when the report ends (Z.101: system, agent; Z.102: timer).
use Rattle.std.specs.Prelude.{◌≡◌, ◌<◌, ◌≤◌, ◌⊎◌, ℕ, Bool, true, false, List, [], ◌∷◌, ◌++◌, All, count_by, sum_by, take}
use Rattle.port_model.specs.History.{Expire, PortEvent, Take}
use Rattle.port_model.specs.Port.{PortState}
use Rattle.port_model.specs.declared.selection.Class.{Class}
use Rattle.port_model.specs.declared.taken.Taken.TheVariants.{Nothing}
use Rattle.port_model.specs.declared.timer.ActiveTimer.{ActiveTimer}
use Rattle.port_model.specs.declared.timer.Phase.{Phase}
use Rattle.port_model.specs.declared.timer.Phase.TheVariants.{Running, Waiting}
use Rattle.run_record.specs.Event as event
use Rattle.run_record.specs.Event.{Event, is_beginning}
use Rattle.run_record.specs.Record.{RecordValue}
use Rattle.run_semantics.specs.World.{time_after_one}
use Rattle.sdl_script.specs.Script.{end_of}
use Rattle.sdl_script.specs.declared.script.ScriptLine.{ScriptLine}
use Rattle.settle_meaning.specs.Living.{is_end}
use Rattle.settle_meaning.specs.Puts.{Heard, signals_heard, signals_of}

-- ---- one record

-- the last event is of this kind
pub record EndsIn (Is : Event → Type 0) (events : List Event) : Type 0 where
  pub before : List Event
  pub last : Event
  pub events_are : events ≡ before ++ last ∷ []
  pub is_so : Is last

-- a stop or a failure; a rest; a cut
abbrev pub IsEnd : Event → Type 0
IsEnd happened = is_end happened ≡ true

abbrev pub IsRest : Event → Type 0
IsRest (event.Rest state) = Unit {0}
IsRest happened = ⊥

abbrev pub IsCut : Event → Type 0
IsCut (event.Cut state) = Unit {0}
IsCut happened = ⊥

abbrev pub IsExpiry : PortEvent → Type 0
IsExpiry (Expire key arm due at) = Unit {0}
IsExpiry happened = ⊥

-- the last take of the owner found nothing, and no signal was put after it
pub record FoundNothing (history : List PortEvent) : Type 0 where
  pub before : List PortEvent
  pub classes : List Class
  pub later : List PortEvent
  pub was : history ≡ before ++ Take classes Nothing ∷ later
  pub expiries : All IsExpiry later

-- a timer that runs is due after this time
abbrev pub IsDueAfter : ℕ → Phase → Type 0
IsDueAfter end (Running arm due) = end < due
IsDueAfter end (Waiting arm) = Unit {0}

abbrev pub AreDueAfter : ℕ → List ActiveTimer → Type 0
AreDueAfter end timers = All (λ (timer : ActiveTimer). IsDueAfter end timer.phase) timers

-- The instance lives on and rests: a take found nothing after all that was put, and no timer is due by the end.
pub record RestsAt (end : ℕ) (events : List Event) (history : List PortEvent) (port : PortState) : Type 0 where
  pub rest : EndsIn IsRest events
  pub found : FoundNothing history
  pub timers : AreDueAfter end port.timers

-- A record ends with a stop or a failure. If the instance lives on, it rests where the run is whole, and closes with a
-- cut where the run was cut.
abbrev pub ClosesAs : Bool → ℕ → List Event → List PortEvent → PortState → Type 0
ClosesAs true end events history port = EndsIn IsEnd events ⊎ RestsAt end events history port
ClosesAs false end events history port = EndsIn IsEnd events ⊎ EndsIn IsCut events

-- ---- the report

-- how many transitions the records have
abbrev pub transitions_in : RecordValue → ℕ
transitions_in trace = count_by is_beginning trace.events

abbrev pub transitions : List RecordValue → ℕ
transitions records = sum_by transitions_in records

-- the event happened at this time at the latest, where it has a time
abbrev pub IsBy : ℕ → Event → Type 0
IsBy end happened = time_after_one 0 happened ≤ end

abbrev pub AreBy : ℕ → RecordValue → Type 0
AreBy end trace = All (IsBy end) trace.events

-- Whole: fewer transitions than the limit, the whole script was heard, and the run ends when the script does.
pub record EndsWhole (lines : List ScriptLine) (limit : ℕ) (heard : List Heard) (records : List RecordValue)
    (end : ℕ) : Type 0 where
  pub fewer : transitions records < limit
  pub heard_all : signals_heard heard ≡ signals_of lines
  pub is_end : end ≡ end_of lines

-- Cut: as many transitions as the limit, or more, so many lines of the script were heard, and no event is past the end.
pub record EndsCut (lines : List ScriptLine) (limit : ℕ) (heard : List Heard) (records : List RecordValue)
    (end : ℕ) : Type 0 where
  pub as_many : limit ≤ transitions records
  pub line : ℕ
  pub heard_first : signals_heard heard ≡ signals_of (take line lines)
  pub not_before : All (AreBy end) records

abbrev pub Ends : Bool → List ScriptLine → ℕ → List Heard → List RecordValue → ℕ → Type 0
Ends true lines limit heard records end = EndsWhole lines limit heard records end
Ends false lines limit heard records end = EndsCut lines limit heard records end
