-- What is told so far, in parts of transitions.
use Rattle.std.specs.Prelude.{◌≡◌, ◌<◌, ◌≤◌, ℕ, ◌+◌, ◌==◌, ◌⊎◌, Bool, false, true, List, [], ◌∷◌, ◌++◌, Option, None, Some, length, slice_get}
use Rattle.std.specs.List.{AllByRecursion}
use Rattle.std.specs.Option.{option_map_or}
use Rattle.run_record.specs.Entry.{event_of}
use Rattle.run_record.specs.Event.{Event}
use Rattle.run_record.specs.Record.{RecordValue}
use Rattle.view_timeline.specs.Parts.{AreLongest, IsClosing, by_all, instances_in}
use Rattle.view_timeline.specs.declared.events.Events.{Events}
use Rattle.view_timeline.specs.declared.events.Reached.{Reached}
use Rattle.view_timeline.specs.Did.{Did, begins, is_closing, time_of}
use Rattle.view_timeline.specs.Moves.{GoOn, IsPart, began, done_by, moves_of}
use Rattle.view_timeline.specs.Cursor.{IsAt}
use Rattle.view_timeline.specs.Traffic.{IsToUnbegun, Ledger, Tells, ledger_of}
use Rattle.view_timeline.specs.declared.cursor.Next.{Next}
use Rattle.view_timeline.specs.declared.moves.Move.{Move}
use Rattle.view_timeline.specs.declared.moves.Timeline.{Timeline}

-- all that is told
abbrev pub done_of : List RecordValue → Events → List Did
done_of records events = done_by records events.moves.items

-- how far the record at this place is told
abbrev pub reached : Events → ℕ → Option Reached
reached events place = slice_get events.reached.items place

-- whether that record is one of the instance of this number
abbrev pub has_number : ℕ → Option Reached → Bool
has_number number one = option_map_or (λ (it : Reached). it.cursor.number == number) one false

-- ---- what holds at each time

-- how far a record is told: the parts of it go on from its first event up to there
pub record IsTold (moves : List Move) (place : ℕ) (trace : RecordValue) (all : List Reached) : Type 0 where
  pub one : Reached
  pub is_there : slice_get all place ≡ Some one
  pub at : IsAt trace one.cursor
  pub began_is : one.began ≡ began None at.first
  pub told : GoOn 0 (moves_of place moves) one.cursor.told

pub record AreTold (records : List RecordValue) (moves : List Move) (all : List Reached) (now : Ledger) : Type 0 where
  pub as_many : length all ≡ length records
  pub parts : AllByRecursion (IsPart records) moves
  pub longest : AreLongest records moves
  pub told : (place : ℕ) (trace : RecordValue) → slice_get records place ≡ Some trace → IsTold moves place trace all
  pub tells : Tells records (done_by records moves) now

-- Each part is of a record, it is known how far each is told, and who lives and what waits.
abbrev pub Keeps : List RecordValue → Events → Type 0
Keeps records events = AreTold records events.moves.items events.reached.items (ledger_of events.traffic)

-- ---- the next event

-- the next event of the record at this place, and what is left behind it
pub record IsNext (events : Events) (place : ℕ) (next : Next) : Type 0 where
  pub one : Reached
  pub is_there : reached events place ≡ Some one
  pub number : one.cursor.number ≡ next.number
  pub first : one.cursor.told ≡ next.first
  pub left : one.cursor.left ≡ event_of next.entry next.values.now ∷ next.rest.left
  pub rest_number : next.rest.number ≡ next.number
  pub rest_told : next.rest.told ≡ next.first + 1

-- all of a record is told, or some of it is left, of the instance of this number
abbrev pub IsDone : Events → ℕ → Type 0
IsDone events place = (one : Reached) → reached events place ≡ Some one → one.cursor.left ≡ []

abbrev pub IsAllTold : Events → Type 0
IsAllTold events = (place : ℕ) → IsDone events place

pub record HasLeft (events : Events) (place : ℕ) (number : ℕ) : Type 0 where
  pub one : Reached
  pub is_there : reached events place ≡ Some one
  pub number_is : one.cursor.number ≡ number
  pub left : 0 < length one.cursor.left

-- Once something began at this time, the event begins no earlier, if it begins a transition; it doesn't close a record.
abbrev pub IsInTime : ℕ → Event → Type 0
IsInTime latest event = begins event ≡ true → (at : ℕ) × (time_of event ≡ Some at) × (latest ≤ at)

-- it begins earlier, or closes a record
pub data IsOutOfTime (latest : ℕ) (event : Event) : Type 0 where
  earlier : (at : ℕ) → time_of event ≡ Some at → at < latest → IsOutOfTime latest event
  closing : is_closing event ≡ true → IsOutOfTime latest event

-- why an event of the instance of this number can't be told now, whatever waits
pub data IsBarred (events : Events) (number : ℕ) (event : Event) : Type 0 where
  dead : (ledger_of events.traffic).living number ≡ false → IsBarred events number event
  unbegun : IsToUnbegun event (ledger_of events.traffic) → IsBarred events number event
  untimely : IsOutOfTime events.latest event → IsBarred events number event

abbrev pub time_or : ℕ → Option ℕ → ℕ
time_or latest None = latest
time_or latest (Some at) = at

abbrev pub latest_after : ℕ → Event → ℕ
latest_after latest event = time_or latest (time_of event)

-- ---- what changes

-- the part up to the end of another one
abbrev pub longer : Move → Move → Move
longer last part = record { «record» = last.record; first = last.first; end = part.end; at = last.at }

-- the last part is made longer, up to the end of another one of the same record
pub record Lengthens (old new : List Move) (part : Move) : Type 0 where
  pub before : List Move
  pub last : Move
  pub was : old ≡ before ++ last ∷ []
  pub same : last.record.0 ≡ part.record.0
  pub now : new ≡ before ++ longer last part ∷ []

-- the last part is none of the same record
abbrev pub EndsElsewhere : List Move → Move → Type 0
EndsElsewhere old part = (before : List Move) (last : Move) → old ≡ before ++ last ∷ []
    → last.record.0 ≡ part.record.0 → ⊥

-- A part of one event is told: it makes the last part longer, if that is of the same record and no transition begins;
-- else it is one of its own.
pub data Grows (old new : List Move) (part : Move) (opens : Bool) : Type 0 where
  made_longer : opens ≡ false → Lengthens old new part → Grows old new part opens
  one_more : new ≡ old ++ part ∷ [] → (opens ≡ true) ⊎ EndsElsewhere old part → Grows old new part opens

-- ---- the timeline of all that is told

abbrev pub timeline_of : Events → Timeline
timeline_of events = record {
  moves = events.moves;
  links = events.traffic.links;
  arrows = events.traffic.arrows;
  living = events.traffic.living;
}

-- ---- the order

-- one event of each of these instances is told, in this order; those of the environment are no events
abbrev pub TellsIn : List ℕ → List Did → List Did → Type 0
TellsIn tellers old new = by_all new ≡ by_all old ++ instances_in tellers

-- that is so of those before this one
pub record TellsBefore (number : ℕ) (tellers : List ℕ) (old new : List Did) : Type 0 where
  pub before : List ℕ
  pub later : List ℕ
  pub all : tellers ≡ before ++ number ∷ later
  pub tells : TellsIn before old new

-- records close
pub record Closes (old new : List Did) : Type 0 where
  pub closings : List Did
  pub all : new ≡ old ++ closings
  pub only : AllByRecursion IsClosing closings
