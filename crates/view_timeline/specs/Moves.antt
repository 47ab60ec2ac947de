-- The moves of a timeline, and what is done in them.
use Rattle.std.specs.Prelude.{◌≡◌, ℕ, ◌+◌, ◌<◌, ◌==◌, ◌≤◌, Contains, false, List, [], ◌∷◌, map, take, Option, None, Some, slice_get, slice_range, if◌then◌else◌}
use Rattle.std.specs.List.{filter, flat_map, AllByRecursion}
use Rattle.std.specs.Option.{option_map_or}
use Rattle.run_record.specs.Event as event
use Rattle.run_record.specs.Record.{RecordValue}
use Rattle.view_timeline.specs.Did.{Did, begins, did, time_of}
use Rattle.view_timeline.specs.declared.moves.Move.{Move}

-- the events of a move, and of a row of moves
abbrev pub events_in : RecordValue → Move → List event.Event
events_in trace move = slice_range trace.events move.first.0 move.end.0

abbrev pub done_in : List RecordValue → Move → List Did
done_in records move =
    option_map_or (λ (trace : RecordValue). map (did trace.pid) (events_in trace move))
    (slice_get records move.record.0) []

abbrev pub done_by : List RecordValue → List Move → List Did
done_by records moves = flat_map (done_in records) moves

-- ---- parts of transitions

-- a transition may begin with the first of these events, and with no other
abbrev pub IsOfOne : List event.Event → Type 0
IsOfOne [] = ⊥
IsOfOne (first ∷ rest) = AllByRecursion (λ (one : event.Event). begins one ≡ false) rest

-- when the last of the transitions began that begin among these events, if the one before them began then
abbrev pub began : Option ℕ → List event.Event → Option ℕ
began before [] = before
began before (event ∷ more) = began (if begins event then time_of event else before) more

-- when the transition began of which the event at this place of a record is one
abbrev pub began_at : RecordValue → ℕ → Option ℕ
began_at trace place = began None (take (place + 1) trace.events)

-- a move is a part of a transition of one of the records, or the whole of it
pub record IsPart (records : List RecordValue) (move : Move) : Type 0 where
  pub trace : RecordValue
  pub is_there : slice_get records move.record.0 ≡ Some trace
  pub of_one : IsOfOne (events_in trace move)
  pub at : move.at ≡ began_at trace move.first.0

-- the moves of the record at this place, in their order
abbrev pub moves_of : ℕ → List Move → List Move
moves_of place moves = filter (λ (move : Move). move.record.0 == place) moves

-- each move goes on where the one before it ends, from one entry up to another
abbrev pub GoOn : ℕ → List Move → ℕ → Type 0
GoOn from [] end = from ≡ end
GoOn from (move ∷ more) end = (move.first.0 ≡ from) × GoOn move.end.0 more end

-- ---- times

-- when moves begin
abbrev pub times : List Did → List (Option ℕ)
times [] = []
times (d ∷ more) = if begins d.event then time_of d.event ∷ times more else times more

-- a record closes after all times
abbrev pub IsNotLater : Option ℕ → Option ℕ → Type 0
IsNotLater (Some one) (Some other) = one ≤ other
IsNotLater one None = Unit {0}
IsNotLater None (Some other) = ⊥

-- none is later than one after it
abbrev pub NeverFall : List (Option ℕ) → Type 0
NeverFall [] = Unit {0}
NeverFall (time ∷ later) = AllByRecursion (IsNotLater time) later × NeverFall later

-- no move is told that begins later than at this time, and they never fall
pub record IsUpTo (time : Option ℕ) (done : List Did) : Type 0 where
  pub forward : NeverFall (times done)
  pub up_to : AllByRecursion (λ (one : Option ℕ). IsNotLater one time) (times done)

-- no time that is told is later than this one, and it is told, or the first
pub record IsLatest (time : ℕ) (done : List Did) : Type 0 where
  pub up_to : IsUpTo (Some time) done
  pub is_told : 0 < time → Contains (times done) (Some time)
