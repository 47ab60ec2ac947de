-- A timeline in which a transition may be told in several parts, in an order that is given.
use Rattle.std.specs.Prelude.{◌≡◌, ℕ, ◌==◌, not, true, List, [], ◌∷◌, ◌++◌, Some, filter, length, map, slice_get}
use Rattle.std.specs.List.{AllByRecursion}
use Rattle.run_record.specs.Event as event
use Rattle.run_record.specs.Record.{RecordValue}
use Rattle.view_timeline.specs.Did.{Did, begins, is_closing}
use Rattle.view_timeline.specs.Hindered.{CantGoOn, IsLeft}
use Rattle.view_timeline.specs.Moves.{GoOn, IsPart, moves_of}
use Rattle.view_timeline.specs.Timeline.{AllTakes, AreArrows, AreBegun, AreInOrder, AreLiving, AreLookedUp, IsElseUnlinked, IsForward, IsWaiting, done}
use Rattle.view_timeline.specs.declared.moves.Move.{Move}
use Rattle.view_timeline.specs.declared.moves.Timeline.{Timeline}
use Rattle.view_timeline.specs.declared.untold.Untold.{Untold}
use Rattle.view_timeline.specs.declared.untold.Untold.TheVariants as untold

-- The parts of a record, in their order, are all its entries, in their order: every event stands once.
pub record EachOnce (records : List RecordValue) (moves : List Move) : Type 0 where
  pub parts : AllByRecursion (IsPart records) moves
  pub whole : (place : ℕ) (trace : RecordValue) → slice_get records place ≡ Some trace
      → GoOn 0 (moves_of place moves) (length trace.events)

-- a transition begins with the part
pub record IsOpening (records : List RecordValue) (part : Move) : Type 0 where
  pub trace : RecordValue
  pub is_there : slice_get records part.record.0 ≡ Some trace
  pub event : event.Event
  pub event_is : slice_get trace.events part.first.0 ≡ Some event
  pub opens : begins event ≡ true

-- Where a part follows one of the same record, a transition begins with it: else the two would be one part.
abbrev pub AreLongestAfter : List RecordValue → Move → List Move → Type 0
AreLongestAfter records one [] = Unit {0}
AreLongestAfter records one (other ∷ more) =
    (one.record.0 ≡ other.record.0 → IsOpening records other) × AreLongestAfter records other more

-- A transition is told in parts only if something of another record comes between.
abbrev pub AreLongest : List RecordValue → List Move → Type 0
AreLongest records [] = Unit {0}
AreLongest records (part ∷ more) = AreLongestAfter records part more

-- ---- the order

-- the numbers of instances among these, without the lines of the script
abbrev pub instances_in : List ℕ → List ℕ
instances_in tellers = filter (λ number. not (number == 0)) tellers

-- of whom these events are
abbrev pub by_all : List Did → List ℕ
by_all events = map (λ (one : Did). one.by) events

abbrev pub IsClosing : Did → Type 0
IsClosing one = is_closing one.event ≡ true

-- The events are told of these instances, one after the other; then records close.
pub record IsInOrderOf (records : List RecordValue) (tellers : List ℕ) (told : Timeline) : Type 0 where
  pub before : List Did
  pub closings : List Did
  pub all : done records told ≡ before ++ closings
  pub order : by_all before ≡ instances_in tellers
  pub only : AllByRecursion IsClosing closings

-- ---- where not all can be told

-- as far as it goes, it says what a timeline says
pub record IsTimeline (records : List RecordValue) (told : Timeline) : Type 0 where
  pub parts : AllByRecursion (IsPart records) told.moves.items
  pub longest : AreLongest records told.moves.items
  pub begun : AreBegun records told
  pub forward : IsForward records told
  pub arrows : AreArrows records told
  pub all_takes : AllTakes records told
  pub in_order : AreInOrder records told
  pub waiting : IsWaiting records told
  pub looked_up : AreLookedUp records told
  pub else_unlinked : IsElseUnlinked records told
  pub living : AreLiving records told

-- It stops before an event of this instance in the order, which can't go on; or all that is in the order is told, records
-- closed, and events of this instance are left.
pub data StopsAt (records : List RecordValue) (tellers : List ℕ) (told : Timeline) (number : ℕ) : Type 0 where
  stops_before :
      (before later : List ℕ) → tellers ≡ before ++ number ∷ later
      → by_all (done records told) ≡ instances_in before
      → CantGoOn records told.moves.items told.links.items number → StopsAt records tellers told number
  stops_after :
      IsInOrderOf records tellers told → IsLeft records told.moves.items number → StopsAt records tellers told number

pub record IsStuck (records : List RecordValue) (tellers : List ℕ) (told : Timeline) (number : ℕ) : Type 0 where
  pub says : IsTimeline records told
  pub stops : StopsAt records tellers told number

abbrev pub IsUntold : List RecordValue → List ℕ → Untold → Type 0
IsUntold records tellers (untold.Stuck told number) = IsStuck records tellers told number
IsUntold records tellers untold.Memory = Unit {0}
