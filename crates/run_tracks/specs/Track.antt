-- How far a record is told.
use Rattle.std.specs.Prelude.{◌≡◌, ℕ, Bool, true, false, List, [], ◌∷◌, None, Option, Some}
use Rattle.port_model.specs.declared.values.value.Value.{Value}
use Rattle.run_record.specs.Entry.{event_of}
use Rattle.run_record.specs.Event.{Event}
use Rattle.run_record.specs.declared.entry.Entry.{Entry}
use Rattle.run_record.specs.declared.entry.Entry.TheVariants as entry

-- The next event that isn't told, without its values, and those after it. For each step that isn't told, how many
-- entries were drawn after it; and the versions of the roster that are still to be seen or made. By the number of an
-- instance, how many signals to it are still to be lost.
pub record TrackState : Type 0 where
  pub next : Option Entry
  pub later : List Event
  pub drawn : List ℕ
  pub versions : List ℕ
  pub lost : List ℕ

-- ---- its events

-- these are the first of them and the others
abbrev pub AreSplit : List Event → Option Entry → List Event → Type 0
AreSplit events None later = (events ≡ []) × (later ≡ [])
AreSplit events (Some next) later = (values : List Value) × (events ≡ event_of next values ∷ later)

-- just these are left to be told
abbrev pub AreLeft : List Event → TrackState → Type 0
AreLeft events t = AreSplit events t.next t.later

abbrev pub with_next : Option Entry → List Event → TrackState → TrackState
with_next next later t = record t { next = next; later = later }

-- nothing is left but what closes the record
abbrev pub is_closing : Option Entry → Bool
is_closing None = true
is_closing (Some (entry.Rest state)) = true
is_closing (Some (entry.Cut state)) = true
is_closing (Some other) = false

-- the next event is told, unless nothing is left but that
abbrev pub IsToldIf : Bool → TrackState → TrackState → Type 0
IsToldIf true old new = new ≡ old
IsToldIf false old new = AreLeft old.later new × (new ≡ with_next new.next new.later old)

abbrev pub IsTold : TrackState → TrackState → Type 0
IsTold old new = IsToldIf (is_closing old.next) old new

-- when the step is made that an event begins
abbrev pub time_of : Option Entry → Option ℕ
time_of (Some (entry.Start at)) = Some at
time_of (Some (entry.Consumed at got)) = Some at
time_of (Some (entry.Prior at got)) = Some at
time_of (Some (entry.Discarded at got)) = Some at
time_of (Some (entry.Provided at number)) = Some at
time_of (Some (entry.FailedAt at why)) = Some at
time_of other = None
