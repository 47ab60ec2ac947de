-- Why an instance can't go on, by what is told.
use Rattle.std.specs.Prelude.{◌≡◌, ℕ, ◌<◌, false, true, List, Some, Contains, length, slice_get}
use Rattle.run_record.specs.Event.{Event}
use Rattle.run_record.specs.Record.{RecordValue}
use Rattle.view_timeline.specs.Did.{Did, Message, did, is_closing, looked_up, taken, time_of}
use Rattle.view_timeline.specs.Lives.{has_begun, lives}
use Rattle.view_timeline.specs.Moves.{GoOn, done_by, moves_of, times}
use Rattle.view_timeline.specs.Rows.{IsFirst, waiting_on}
use Rattle.view_timeline.specs.declared.moves.Link.{Link}
use Rattle.view_timeline.specs.declared.moves.Move.{Move}

-- the next event of the record at this place, once these moves are told
pub record IsNextOf (records : List RecordValue) (moves : List Move) (place : ℕ) (next : Did) : Type 0 where
  pub trace : RecordValue
  pub is_there : slice_get records place ≡ Some trace
  pub end : ℕ
  pub told : GoOn 0 (moves_of place moves) end
  pub event : Event
  pub event_is : slice_get trace.events end ≡ Some event
  pub next_is : next ≡ did trace.pid event

-- Why an event can't be told next, once all this was done, with these links.
pub data Hindered (records : List RecordValue) (done : List Did) (links : List Link) (next : Did) : Type 0 where
  -- its instance doesn't live: nothing created it, or it has ended
  lives_not : lives records done next.by ≡ false → Hindered records done links next
  -- it's an output that names no Pid, to an instance that hasn't begun: nothing created it
  is_early :
      (number : ℕ) → looked_up next.event ≡ Some number → has_begun records done number ≡ false
      → Hindered records done links next
  -- something began at a later time
  is_past :
      (at later : ℕ) → time_of next.event ≡ Some at → Contains (times done) (Some later) → at < later
      → Hindered records done links next
  -- it takes a signal of an instance, and this one doesn't wait first on its channel: none waits there, or the first
  -- has other values
  is_missing :
      (message : Message) → taken next ≡ Some message
      → (IsFirst message.values (waiting_on message.channel done links) → ⊥) → Hindered records done links next
  -- its record closes with it, and records close at the end
  closes : is_closing next.event ≡ true → Hindered records done links next

-- Why no event of the instance of this number can be told next, once these moves are told, with these links.
pub data CantGoOn (records : List RecordValue) (moves : List Move) (links : List Link) (number : ℕ) : Type 0 where
  has_no_record :
      ((place : ℕ) (trace : RecordValue) → slice_get records place ≡ Some trace → trace.pid ≡ number → ⊥)
      → CantGoOn records moves links number
  all_is_told :
      (place : ℕ) (trace : RecordValue) → slice_get records place ≡ Some trace → trace.pid ≡ number
      → GoOn 0 (moves_of place moves) (length trace.events) → CantGoOn records moves links number
  is_hindered :
      (place : ℕ) (next : Did) → IsNextOf records moves place next → next.by ≡ number
      → Hindered records (done_by records moves) links next → CantGoOn records moves links number

-- Why a record doesn't close with its next event, or doesn't end with its close.
pub data CantClose (records : List RecordValue) (done : List Did) (next : Did) : Type 0 where
  -- it's another event
  goes_on : is_closing next.event ≡ false → CantClose records done next
  -- its instance doesn't live
  ended : lives records done next.by ≡ false → CantClose records done next
  -- it has closed by then
  has_closed :
      (closing : Did) → Contains done closing → closing.by ≡ next.by → is_closing closing.event ≡ true
      → CantClose records done next

-- An event of this instance is left once these moves are told, and why.
pub record IsLeft (records : List RecordValue) (moves : List Move) (number : ℕ) : Type 0 where
  pub place : ℕ
  pub next : Did
  pub is_next : IsNextOf records moves place next
  pub number_is : next.by ≡ number
  pub why : CantClose records (done_by records moves) next
