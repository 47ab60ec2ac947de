-- Ports that gather the senders of all places, by ascending places (Z.101: input port).
use Rattle.std.specs.Prelude.{◌≡◌, ◌<◌, ◌≤◌, ◌+◌, ℕ, true, false, List, [], ◌∷◌, ◌++◌, All, length, map, count_by}
use Rattle.input_port.specs.Counts.{sent_by, signals_in}
use Rattle.port_model.specs.Calls.{after_draws}
use Rattle.port_model.specs.Ends.{OwnerState, is_signal}
use Rattle.port_model.specs.Put.{Apart, of}
use Rattle.port_model.specs.declared.inbox.placed.Gone.{Gone}
use Rattle.port_model.specs.declared.inbox.placed.Placed.{Placed}
use Rattle.port_model.specs.declared.values.item.Item.{Item}
use Rattle.port_model.specs.declared.values.pid.Pid.{Pid}

-- ---- places that have put nothing

-- neither the place `from` has put anything, nor one after it and before the place `to`
abbrev pub PutNothing : (ℕ → List Item) → ℕ → ℕ → Type 0
PutNothing put from to = (place : ℕ) → from ≤ place → place < to → put place ≡ []

-- ---- the senders of a port

-- a sender that was gathered: the place that it is of, and its number at the port
pub record Given : Type 0 where
  pub place : ℕ
  pub number : ℕ

-- what its place has put comes first among the signals of its number
pub record IsFirst (put : ℕ → List Item) (known : List Placed) (given : Given) : Type 0 where
  pub more : List Item
  pub first : signals_in (of given.number known) ≡ put given.place ++ more

-- Of the places before `next` these senders were gathered, the last one first. No place is twice among them, and all
-- others have put nothing.
abbrev pub AreHeld : (ℕ → List Item) → List Placed → ℕ → List Given → Type 0
AreHeld put known next [] = (place : ℕ) → place < next → put place ≡ []
AreHeld put known next (given ∷ before) =
    (given.place < next) × ((place : ℕ) → given.place < place → place < next → put place ≡ [])
    × IsFirst put known given × AreHeld put known given.place before

-- how many signals they have put
abbrev pub put_by_all : (ℕ → List Item) → List Given → ℕ
put_by_all put [] = 0
put_by_all put (given ∷ before) = length (put given.place) + put_by_all put before

-- their numbers, as the owner has them
abbrev pub numbers_of : List Gone → List ℕ
numbers_of gathered = map (λ (g : Gone). g.number) gathered

abbrev pub numbers_given : List Given → List ℕ
numbers_given given = map (λ (g : Given). g.number) given

-- The owner drew these entries since, each with what a put or an expiry makes of its port. A port that has stopped stays
-- as it is.
pub record Draws (first owner : OwnerState) : Type 0 where
  pub news : List Placed
  pub port : owner.port ≡ first.port
  pub pid : owner.pid ≡ first.pid
  pub drawn : owner.drawn ≡ first.drawn ++ news
  pub living : first.state.alive ≡ true → owner.state ≡ after_draws first.pid first.state news
  pub stopped : first.state.alive ≡ false → owner.state ≡ first.state

-- what a caller sees of a port that gathers, and of one that was counted
pub record GatheringState : Type 0 where
  pub at : ℕ
  pub number : ℕ
  pub next : ℕ
  pub owner : OwnerState

pub record CountedState : Type 0 where
  pub at : ℕ
  pub number : ℕ
  pub places : ℕ
  pub owner : OwnerState

-- The owner has gathered the senders of the places before `next`, which have put so many signals, and no others.
pub record IsGathering (put : ℕ → List Item) (next sent : ℕ) (first owner : OwnerState) : Type 0 where
  pub given : List Given
  pub held : AreHeld put owner.known next given
  pub sent_is : sent ≡ put_by_all put given
  pub gathered : numbers_of owner.gathered ≡ numbers_given given
  pub draws : Draws first owner

-- So many places were gathered, all that the owner knows is drawn, and as many signals were drawn as the places have put.
pub record IsCounted (put : ℕ → List Item) (places : ℕ) (first owner : OwnerState) : Type 0 where
  pub given : List Given
  pub held : AreHeld put owner.drawn places given
  pub as_many : count_by is_signal owner.drawn ≡ put_by_all put given
  pub gathered : numbers_of owner.gathered ≡ numbers_given given
  pub apart : Apart owner.gathered
  pub draws : Draws first owner

-- ---- what a count tells

-- each place has its own origin, and what it has put is of that
pub record AreOwn (origin : ℕ → Pid) (put : ℕ → List Item) (places : ℕ) : Type 0 where
  pub own : (place : ℕ) → place < places → All (λ item. item.sender ≡ origin place) (put place)
  pub apart : (one other : ℕ) → one < places → other < places → origin one ≡ origin other → one ≡ other

-- the signal is of one of the places
pub record IsOfPlace (origin : ℕ → Pid) (places : ℕ) (item : Item) : Type 0 where
  pub place : ℕ
  pub within : place < places
  pub sender : item.sender ≡ origin place

-- of each place just what it has put is among the signals, in its order, and there is no other signal
pub record AllOfAll (origin : ℕ → Pid) (put : ℕ → List Item) (places : ℕ) (signals : List Item) : Type 0 where
  pub each : (place : ℕ) → place < places → sent_by (origin place) signals ≡ put place
  pub no_other : All (IsOfPlace origin places) signals

abbrev pub AllIsPut : Type 0
AllIsPut =
    (put : ℕ → List Item) (places : ℕ) (first owner : OwnerState) (origin : ℕ → Pid)
    → IsCounted put places first owner → AreOwn origin put places
    → AllOfAll origin put places (signals_in owner.drawn)

abbrev pub LateIsNothing : Type 0
LateIsNothing =
    (first owner : OwnerState) (draws : Draws first owner)
    → count_by is_signal owner.drawn ≡ count_by is_signal first.drawn → signals_in draws.news ≡ []
