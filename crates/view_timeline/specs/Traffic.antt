-- Who lives and what waits, once some of the events are told.
use Rattle.std.specs.Prelude.{◌≡◌, ℕ, ◌+◌, ◌<◌, Bool, true, false, nat_eq, List, [], ◌∷◌, ◌++◌, length, map, set, Option, None, Some, if◌then◌else◌, IfSome}
use Rattle.std.specs.List.{AllByRecursion}
use Rattle.indexmap.specs.IndexSet.{contains}
use Rattle.run_record.specs.Event.{Event}
use Rattle.run_record.specs.Record.{RecordValue}
use Rattle.view_timeline.specs.Did.{Did, Message, looked_up, sent, taken}
use Rattle.view_timeline.specs.Linked.{Each, IsBelow, IsDrawn, IsRight, put_on, taken_on}
use Rattle.view_timeline.specs.Lives.{begun_on, has_begun, lives, lives_on}
use Rattle.view_timeline.specs.Rows.{IsFirst, RowsState, Waiting, letter, row_of, waiting_on}
use Rattle.view_timeline.specs.declared.channel.Channel.{Channel}
use Rattle.view_timeline.specs.declared.moves.Link.{Link}
use Rattle.view_timeline.specs.declared.moves.Link.TheVariants as is
use Rattle.view_timeline.specs.declared.traffic.Traffic.{Traffic}

-- the links so far, how many arrows there are, who lives, who has begun, and what waits
pub record Ledger : Type 0 where
  pub links : List Link
  pub arrows : ℕ
  pub living : ℕ → Bool
  pub begun : ℕ → Bool
  pub rows : RowsState

abbrev pub ledger_of : Traffic → Ledger
ledger_of traffic = record {
  links = traffic.links.items;
  arrows = traffic.arrows;
  living = λ number. contains nat_eq traffic.living number;
  begun = λ number. contains nat_eq traffic.begun number;
  rows = row_of traffic.rows.rows;
}

-- the arrow of this number
abbrev pub arrow : ℕ → Link
arrow number = is.Arrow (record { 0 = number })

-- It tells what was done: each link is right, all numbers are drawn, and it knows who lives, who has begun and what
-- waits.
pub record Tells (records : List RecordValue) (done : List Did) (now : Ledger) : Type 0 where
  pub right : Each (IsRight records (λ _. true)) [] done now.links
  pub drawn : (number : ℕ) → number < now.arrows → IsDrawn done now.links number
  pub below : AllByRecursion (IsBelow now.arrows) now.links
  pub living : (number : ℕ) → now.living number ≡ lives records done number
  pub begun : (number : ℕ) → now.begun number ≡ has_begun records done number
  pub waiting : (channel : Channel) → waiting_on channel done now.links ≡ now.rows channel
  pub in_order : (channel : Channel)
      → put_on channel done now.links ≡ taken_on channel done now.links ++ map (λ _. is.Waits) (now.rows channel)

-- ---- one event more

-- nothing is sent to an instance, and nothing of one is taken
pub record Passes (old new : Ledger) : Type 0 where
  pub links : new.links ≡ old.links ++ is.Plain ∷ []
  pub arrows : new.arrows ≡ old.arrows
  pub rows : (channel : Channel) → new.rows channel ≡ old.rows channel

-- a signal is sent to an instance: where that lives it waits behind what it is sent on the same channel
pub record Puts (message : Message) (old new : Ledger) : Type 0 where
  pub links : new.links ≡ old.links ++ (if old.living message.channel.receiver then is.Waits else is.Gone) ∷ []
  pub arrows : new.arrows ≡ old.arrows
  pub rows : (channel : Channel) → new.rows channel
      ≡ old.rows channel
      ++ (if old.living message.channel.receiver then letter channel (length old.links) (Some message) else [])

-- an instance takes what waits first on a channel, and the two places get the next number
pub record Takes (message : Message) (old new : Ledger) : Type 0 where
  pub first : Waiting
  pub rest : List Waiting
  pub values : first.values ≡ message.values
  pub was : old.rows message.channel ≡ first ∷ rest
  pub left : new.rows message.channel ≡ rest
  pub others : (channel : Channel) → (channel ≡ message.channel → ⊥) → new.rows channel ≡ old.rows channel
  pub links : new.links ≡ set old.links first.place (arrow old.arrows) ++ arrow old.arrows ∷ []
  pub arrows : new.arrows ≡ old.arrows + 1

-- by what the event sends, and what it takes
abbrev pub Links : Option Message → Option Message → Ledger → Ledger → Type 0
Links (Some message) taken old new = Puts message old new
Links None (Some message) old new = Takes message old new
Links None None old new = Passes old new

-- if the event is an output that names no Pid, its receiver has begun
abbrev pub IsToBegun : Event → Ledger → Type 0
IsToBegun event old = IfSome (looked_up event) (λ (number : ℕ). old.begun number ≡ true)

-- it is one, and its receiver has not begun
pub record IsToUnbegun (event : Event) (old : Ledger) : Type 0 where
  pub receiver : ℕ
  pub goes_to : looked_up event ≡ Some receiver
  pub begun_not : old.begun receiver ≡ false

-- an event is told
pub record Notes (d : Did) (old new : Ledger) : Type 0 where
  pub living : (number : ℕ) → new.living number ≡ lives_on number d (old.living number)
  pub begun : (number : ℕ) → new.begun number ≡ begun_on number d.event (old.begun number)
  pub to_begun : IsToBegun d.event old
  pub links : Links (sent d) (taken d) old new

-- what an event takes doesn't wait first
abbrev pub IsMissing : Option Message → Ledger → Type 0
IsMissing (Some message) old = IsFirst message.values (old.rows message.channel) → ⊥
IsMissing None old = ⊥

-- nothing is told
pub record IsSame (old new : Ledger) : Type 0 where
  pub links : new.links ≡ old.links
  pub arrows : new.arrows ≡ old.arrows
  pub living : (number : ℕ) → new.living number ≡ old.living number
  pub begun : (number : ℕ) → new.begun number ≡ old.begun number
  pub rows : (channel : Channel) → new.rows channel ≡ old.rows channel
