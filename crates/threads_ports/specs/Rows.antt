-- What is noted of the senders that a port has gathered, and what that tells of the signals that the port has drawn. It
-- speaks of lists, and of no port.
use Rattle.std.specs.Prelude.{◌≡◌, ◌≢◌, ◌≤◌, ◌+◌, ◌⊎◌, ℕ, List, [], ◌∷◌, ◌++◌, All, length, count_by, if◌then◌else◌}
use Rattle.port_model.specs.Ends.{is_signal}
use Rattle.port_model.specs.Put.{StartsWith}
use Rattle.port_model.specs.declared.inbox.placed.Placed.{Placed}
use Rattle.input_port.specs.Counts.{FlowsInto, sent_by, signals_in}
use Rattle.port_model.specs.Same.{same_pid}
use Rattle.port_model.specs.declared.values.item.Item.{Item}
use Rattle.port_model.specs.declared.values.pid.Pid.{Pid}

-- the first list ends with the second
abbrev pub EndsWith : List Item → List Item → Type 0
EndsWith xs ys = (missing : List Item) × (xs ≡ missing ++ ys)

-- What is noted of a gathered sender: whose it was, its number at the port, and how many signals it put.
pub record Row : Type 0 where
  pub origin : Pid
  pub number : ℕ
  pub sent : ℕ

-- The row holds: its sender put so many signals, all of its origin. They come first among the signals drawn of its
-- number, and what the origin sends to the port ends with them.
pub record Holds (sends : Pid → List Item) (drawn : List Placed) (row : Row) : Type 0 where
  pub put : List Item
  pub many : length put ≡ row.sent
  pub flows : FlowsInto drawn (record { origin = row.origin; number = row.number; put = put })
  pub end : EndsWith (sends row.origin) put

-- no two rows have one number or one origin
abbrev pub IsOther : Row → Row → Type 0
IsOther row other = (other.number ≢ row.number) × (other.origin ≢ row.origin)

abbrev pub AreApart : List Row → Type 0
AreApart [] = Unit {0}
AreApart (row ∷ rows) = All (IsOther row) rows × AreApart rows

-- how many signals all rows tell
abbrev pub told_by_all : List Row → ℕ
told_by_all [] = 0
told_by_all (row ∷ rows) = row.sent + told_by_all rows

-- how many the row of this origin tells; without one, none
abbrev pub told_of : Pid → List Row → ℕ
told_of origin [] = 0
told_of origin (row ∷ rows) = if same_pid row.origin origin then row.sent else told_of origin rows

-- the signal is of the origin of a row
abbrev pub IsOfRow : List Row → Item → Type 0
IsOfRow [] item = ⊥
IsOfRow (row ∷ rows) item = (item.sender ≡ row.origin) ⊎ IsOfRow rows item

-- of this origin the end of what it sends was drawn, in its order: as many signals as its row tells
pub record EndIsDrawn (sends : Pid → List Item) (drawn : List Placed) (rows : List Row) (origin : Pid) : Type 0 where
  pub end : EndsWith (sends origin) (sent_by origin (signals_in drawn))
  pub many : length (sent_by origin (signals_in drawn)) ≡ told_of origin rows

-- ---- what they tell

-- This holds wherever rows apart from each other hold of what was drawn.
abbrev pub OfRows : ((Pid → List Item) → List Placed → List Row → Type 0) → Type 0
OfRows Tells =
    (sends : Pid → List Item) (drawn : List Placed) (rows : List Row) → All (Holds sends drawn) rows → AreApart rows
    → Tells sends drawn rows

-- A row that holds of what was drawn holds of that and of whatever is drawn later.
abbrev pub RowsStay : Type 0
RowsStay =
    (sends : Pid → List Item) (drawn more : List Placed) (row : Row) → StartsWith more drawn → Holds sends drawn row
    → Holds sends more row

-- No fewer signals were drawn than the rows tell.
abbrev pub NoFewerAreDrawn : Type 0
NoFewerAreDrawn = OfRows (λ sends drawn rows. told_by_all rows ≤ count_by is_signal drawn)

-- Where no more were drawn, of each origin the end was drawn that its row tells.
abbrev pub EndsAreDrawn : Type 0
EndsAreDrawn = OfRows (λ sends drawn rows. count_by is_signal drawn ≤ told_by_all rows
    → (origin : Pid) → EndIsDrawn sends drawn rows origin)

-- So all is drawn that an origin sends, where its row tells as many.
abbrev pub AllIsDrawn : Type 0
AllIsDrawn = OfRows (λ sends drawn rows. count_by is_signal drawn ≤ told_by_all rows
    → (origin : Pid) → told_of origin rows ≡ length (sends origin) → sent_by origin (signals_in drawn) ≡ sends origin)

-- And each signal is of the origin of a row.
abbrev pub NoOtherIsDrawn : Type 0
NoOtherIsDrawn = OfRows (λ sends drawn rows. count_by is_signal drawn ≤ told_by_all rows
    → All (IsOfRow rows) (signals_in drawn))

-- Where rows hold of what was drawn by some moment, and no more signals were drawn in the end than they tell, none was
-- drawn after that moment.
abbrev pub NothingMoreIsDrawn : Type 0
NothingMoreIsDrawn = OfRows (λ sends drawn rows. (later : List Placed)
    → count_by is_signal (drawn ++ later) ≤ told_by_all rows → signals_in later ≡ [])
