-- A timeline, event by event.
use Rattle.std.specs.Prelude.{◌≡◌, ℕ, ◌+◌, ◌-◌, ◌<◌, ◌≤◌, ◌==◌, ◌&&◌, Bool, true, false, not, List, [], ◌∷◌, ◌++◌, length, drop, Option, None, Some, slice_get, slice_range, if◌then◌else◌}
use Rattle.std.specs.List.{AllByRecursion}
use Rattle.std.specs.Option.{option_map_or}
use Rattle.run_record.specs.Event.{Event}
use Rattle.run_record.specs.Record.{RecordValue}
use Rattle.view_timeline.specs.Cursor.{CursorValue, IsAt}
use Rattle.view_timeline.specs.Did.{begins}
use Rattle.view_timeline.specs.Moves.{GoOn, IsPart, events_in, moves_of}
use Rattle.view_timeline.specs.declared.moves.Link.{Link}
use Rattle.view_timeline.specs.declared.moves.Move.{Move}
use Rattle.view_timeline.specs.declared.moves.Timeline.{Timeline}

-- an event of a timeline with its record and its link; when its transition began; its place in its move, from 0, and
-- whether the move ends with it
pub record StepValue : Type 0 where
  pub trace : RecordValue
  pub event : Event
  pub link : Link
  pub at : Option ℕ
  pub place : ℕ
  pub closes : Bool

-- When its transition began, if the event is the first of a part with which it goes on: one that doesn't begin it.
abbrev pub goes_on : StepValue → Option ℕ
goes_on step = if (step.place == 0) && not (begins step.event) then step.at else None

abbrev pub is_none : List Event → Bool
is_none [] = true
is_none (event ∷ more) = false

-- events of a move with their links, from this place in it on
abbrev pub steps_in : RecordValue → Option ℕ → ℕ → List Event → List Link → List StepValue
steps_in trace at place [] links = []
steps_in trace at place (event ∷ more) [] = []
steps_in trace at place (event ∷ more) (link ∷ links) =
    (record { trace = trace; event = event; link = link; at = at; place = place; closes = is_none more })
    ∷ steps_in trace at (place + 1) more links

abbrev pub steps_of : List RecordValue → Move → List Link → List StepValue
steps_of records move links =
    option_map_or (λ (trace : RecordValue). steps_in trace move.at 0 (events_in trace move) links)
    (slice_get records move.record.0) []

-- the links after those of a move
abbrev pub links_after : List RecordValue → Move → List Link → List Link
links_after records move links =
    option_map_or (λ (trace : RecordValue). drop (length (events_in trace move)) links)
    (slice_get records move.record.0) links

abbrev pub steps : List RecordValue → List Move → List Link → List StepValue
steps records [] links = []
steps records (move ∷ moves) links = steps_of records move links ++ steps records moves (links_after records move links)

-- all events, in the order of the timeline
abbrev pub all_steps : List RecordValue → Timeline → List StepValue
all_steps records told = steps records told.moves.items told.links.items

-- ---- on the way

-- the events of a move that are left, if so many of the record are passed
abbrev pub left_in : RecordValue → ℕ → Move → List Event
left_in trace passed move = slice_range trace.events passed move.end.0

-- what is left of a move, and the moves after it
abbrev pub left_from : List RecordValue → Move → List Move → List Link → RecordValue → ℕ → List StepValue
left_from records move moves links trace passed =
    steps_in trace move.at (passed - move.first.0) (left_in trace passed move) links
    ++ steps records moves (drop (length (left_in trace passed move)) links)

-- what is left, if a walk is in the first of the moves, and the cursors say how much of each record is passed
abbrev pub left_of : List RecordValue → List CursorValue → List Move → List Link → List StepValue
left_of records cursors [] links = []
left_of records cursors (move ∷ moves) links =
    option_map_or (λ (trace : RecordValue). option_map_or
    (λ (cursor : CursorValue). left_from records move moves links trace cursor.told)
    (slice_get cursors move.record.0) []) (slice_get records move.record.0) []

-- the moves of a record go on from so many of its events, and don't go past its end
pub record GoesOn (place passed : ℕ) (trace : RecordValue) (moves : List Move) : Type 0 where
  pub end : ℕ
  pub within : end ≤ length trace.events
  pub whole : GoOn passed (moves_of place moves) end

-- how much of the record at this place is passed after a move
abbrev pub passed_after : Move → ℕ → CursorValue → ℕ
passed_after move place cursor = if move.record.0 == place then move.end.0 else cursor.told

-- A walk is in a move, before an event of it.
pub record IsIn (records : List RecordValue) (cursors : List CursorValue) (move : Move) (moves : List Move)
    : Type 0 where
  pub as_many : length cursors ≡ length records
  pub at : (place : ℕ) (trace : RecordValue) (cursor : CursorValue) → slice_get records place ≡ Some trace
      → slice_get cursors place ≡ Some cursor → IsAt trace cursor
  pub is_part : IsPart records move
  pub are_parts : AllByRecursion (IsPart records) moves
  pub cursor : CursorValue
  pub is_there : slice_get cursors move.record.0 ≡ Some cursor
  pub begun : move.first.0 ≤ cursor.told
  pub goes : cursor.told < move.end.0
  pub go_on : (place : ℕ) (trace : RecordValue) (cursor : CursorValue) → slice_get records place ≡ Some trace
      → slice_get cursors place ≡ Some cursor → GoesOn place (passed_after move place cursor) trace moves

-- It's in the first of the moves, or at the end.
abbrev pub IsOnTheWay : List RecordValue → List CursorValue → List Move → Type 0
IsOnTheWay records cursors [] = Unit {0}
IsOnTheWay records cursors (move ∷ moves) = IsIn records cursors move moves
