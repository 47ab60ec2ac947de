-- The summary of a record: what one look at its events tells (Z.101: agent).
use Rattle.std.specs.Prelude.{◌≡◌, ◌≤◌, ◌⊎◌, ℕ, Bool, true, false, List, [], ◌∷◌, ◌++◌, All, Contains, IfSome, MatchOption, None, Option, Some, count_by, map, option_to_list}
use Rattle.std.specs.List.{AllZip, flat_map, list_any}
use Rattle.port_model.specs.declared.got.Got as got
use Rattle.port_model.specs.declared.got.Got.TheVariants as came
use Rattle.port_model.specs.declared.values.pid.Pid.TheVariants.{Of}
use Rattle.run_record.specs.declared.evaluation.identity.Identity.{Identity}
use Rattle.run_record.specs.Event as event
use Rattle.run_record.specs.Event.{Event, is_beginning}
use Rattle.run_record.specs.Record.{RecordValue}
use Rattle.run_record.specs.declared.entry.Entry.{Entry}
use Rattle.run_record.specs.declared.entry.Entry.TheVariants as kept
use Rattle.run_semantics.specs.World.{time_after_one}
use Rattle.sdl_system.specs.declared.id.ProcessId.{ProcessId}
use Rattle.settle_checks.specs.Events.{refused_in, routed_in}
use Rattle.settle_checks.specs.declared.targets.Routed.{Routed}
use Rattle.settle_meaning.specs.Identities.{created_by, is_memory}
use Rattle.settle_meaning.specs.Living.{is_end}
use Rattle.settle_meaning.specs.Starts.{IsStartAt}
use Rattle.settle_meaning.specs.Times.{AreRisingFrom, time_by}
use Rattle.settle_checks.specs.Flows.{AreFlows, is_with, passes_in, sent_passes, taken_passes}
use Rattle.settle_checks.specs.declared.summing.course.Course.{Course}
use Rattle.settle_checks.specs.declared.summing.creating.Birth.{Birth}
use Rattle.settle_checks.specs.declared.summing.creating.Creates.{Creates}
use Rattle.settle_checks.specs.declared.summing.creating.Creates.TheVariants.{Child, Nothing, Null}
use Rattle.settle_checks.specs.declared.summing.creating.Creating.{Creating}
use Rattle.settle_checks.specs.declared.summing.fate.Fate.{Fate}
use Rattle.settle_checks.specs.declared.summing.sending.Sending.{Sending}
use Rattle.settle_checks.specs.declared.summing.summary.Summary.{Summary}
use Rattle.settle_checks.specs.declared.summing.taking.Taking.{Taking}
use Rattle.settle_checks.specs.declared.summing.taking.Took.{Took}
use Rattle.settle_checks.specs.declared.summing.taking.Took.TheVariants as took

-- ---- times

-- this is the time after the event, and it isn't less than that before
pub record IsNextTime (earlier : ℕ) (happened : Event) (time : ℕ) : Type 0 where
  pub is : time ≡ time_after_one earlier happened
  pub later : earlier ≤ time

-- the start among the events is at this time, or there is none
abbrev pub AreStartsAt : Option ℕ → List Event → Type 0
AreStartsAt start events =
    MatchOption start ((time : ℕ) → All (IsStartAt time) events) (λ time. All (IsStartAt time) events)

-- this is the time of the start with the event
abbrev pub IsStartWith : Option ℕ → Event → Option ℕ → Type 0
IsStartWith old (event.Start at) new = (new ≡ Some at) × ((old ≡ None) ⊎ (old ≡ Some at))
IsStartWith old happened new = new ≡ old

-- the time after these events, of which none is before an earlier one, that of the start, and how many transitions begin
pub record IsCourse (events : List Event) (course : Course) : Type 0 where
  pub rising : AreRisingFrom 0 events
  pub time : course.time ≡ time_by 0 events
  pub start : AreStartsAt course.start events
  pub transitions : course.transitions ≡ count_by is_beginning events

-- ---- ends

pub record IsFate (events : List Event) (fate : Fate) : Type 0 where
  pub ends : fate.ends ≡ list_any is_end events
  pub lacks_memory : fate.lacks_memory ≡ list_any is_memory events

-- ---- creates

-- whom a birth is of, by the number of the creator
abbrev pub child_of : ℕ → Birth → Identity
child_of creator birth = record { process = birth.process; pid = birth.number; parent = Of creator }

-- A birth that tells of a create of this number, after these events: its time, and how many signals were sent to the
-- number before.
pub record IsBirthAfter (before : List Event) (process : ProcessId) (number : ℕ) (birth : Birth) : Type 0 where
  pub process_is : birth.process ≡ process
  pub number_is : birth.number ≡ number
  pub at : birth.at ≡ time_by 0 before
  pub sent : birth.sent ≡ count_by (is_with number) (sent_passes 0 before)

-- some birth of these tells of it
pub record HasBirthAfter (before : List Event) (process : ProcessId) (number : ℕ) (births : List Birth) : Type 0 where
  pub birth : Birth
  pub among : Contains births birth
  pub tells : IsBirthAfter before process number birth

-- the number that an event creates
abbrev pub number_in : Entry → Option ℕ
number_in (kept.Create process pid) = pid
number_in entry = None

-- how an event creates: nobody, none, or an instance
abbrev pub CreatesAs : Event → Creates → Type 0
CreatesAs happened Nothing =
    ((creator : ℕ) → created_by creator happened ≡ []) × (refused_in happened ≡ None)
    × ((process : ProcessId) (number : ℕ) → happened ≡ event.Create process (Some number) → ⊥)
CreatesAs happened (Null process) = happened ≡ event.Create process None
CreatesAs happened (Child process number) = happened ≡ event.Create process (Some number)

-- so many signals were sent by these events to the number that the event creates, if it creates one
abbrev pub IsSentBefore : List Event → Entry → ℕ → Type 0
IsSentBefore done entry sent =
    IfSome (number_in entry) (λ number. sent ≡ count_by (is_with number) (sent_passes 0 done))

-- The births are those of the creates that gave a number, in their order, and the others are refused.
pub record IsCreating (events : List Event) (creating : Creating) : Type 0 where
  pub children : (creator : ℕ)
      → map (child_of creator) creating.births.items ≡ flat_map (created_by creator) events
  pub each : (before later : List Event) (process : ProcessId) (number : ℕ)
      → events ≡ before ++ event.Create process (Some number) ∷ later
      → HasBirthAfter before process number creating.births.items
  pub refused : creating.refused.items ≡ flat_map (λ happened. option_to_list (refused_in happened)) events

-- ---- outputs

-- an output of an instance of the process is among these
abbrev pub IsAmong : ProcessId → List Routed → Event → Type 0
IsAmong process routed happened = IfSome (routed_in process happened) (Contains routed)

-- it is of one of the events
pub record IsOutputIn (process : ProcessId) (events : List Event) (routed : Routed) : Type 0 where
  pub happened : Event
  pub among : Contains events happened
  pub is : routed_in process happened ≡ Some routed

-- Each output is among those that are to be routed, each of these is an output, and what is sent is counted.
pub record IsSending (process : ProcessId) (events : List Event) (sending : Sending) : Type 0 where
  pub each : All (IsAmong process sending.routed.items) events
  pub no_other : All (IsOutputIn process events) sending.routed.items
  pub flows : AreFlows (sent_passes 0 events) sending.flows

-- it is put behind them, or is among them already
abbrev pub HasWith : Routed → List Routed → List Routed → Type 0
HasWith routed old new = (new ≡ old ++ routed ∷ []) ⊎ ((new ≡ old) × Contains old routed)

-- ---- takes

-- the event takes the signal of a timer
abbrev pub is_timer : got.Got → Bool
is_timer (came.Signal item) = false
is_timer (came.Timer key) = true

abbrev pub takes_timer : Event → Bool
takes_timer (event.Consumed at got) = is_timer got
takes_timer (event.Prior at got) = is_timer got
takes_timer (event.Discarded at got) = is_timer got
takes_timer happened = false

-- how an event takes: nothing, the signal of a timer, or another one
abbrev pub TakesAs : Event → Took → Type 0
TakesAs happened took.Nothing = (passes_in happened ≡ []) × (takes_timer happened ≡ false)
TakesAs happened took.Timer = (passes_in happened ≡ []) × (takes_timer happened ≡ true)
TakesAs happened (took.Signal pass) = (passes_in happened ≡ pass ∷ []) × (takes_timer happened ≡ false)

-- whether a timer's signal is taken, and what else is taken is counted
pub record IsTaking (events : List Event) (taking : Taking) : Type 0 where
  pub timer : taking.timer ≡ list_any takes_timer events
  pub flows : AreFlows (taken_passes events) taking.flows

-- ---- all of it

pub record IsSummedUp (process : ProcessId) (events : List Event) (summary : Summary) : Type 0 where
  pub course : IsCourse events summary.course
  pub fate : IsFate events summary.fate
  pub creating : IsCreating events summary.creating
  pub sending : IsSending process events summary.sending
  pub taking : IsTaking events summary.taking

abbrev pub IsSummary : RecordValue → Summary → Type 0
IsSummary trace summary = IsSummedUp trace.process trace.events summary

-- each record has its summary, in their order
abbrev pub AreSummaries : List RecordValue → List Summary → Type 0
AreSummaries records sums = AllZip IsSummary records sums
