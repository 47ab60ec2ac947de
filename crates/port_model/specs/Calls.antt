-- What the calls of an owner do, and what they answer, whatever stands behind its port.
use Rattle.std.specs.Prelude.{◌≡◌, ◌⊎◌, ◌==◌, ℕ, ◌+◌, ◌<◌, if◌then◌else◌, List, [], ◌∷◌, ◌++◌, length, Result, Contains, MatchResult}
use Rattle.port_model.specs.declared.selection.Class.{Class}
use Rattle.port_model.specs.declared.selection.Class.TheVariants as class
use Rattle.port_model.specs.declared.taken.Taken.{Taken}
use Rattle.port_model.specs.declared.taken.Taken.TheVariants.{Consumed, Nothing}
use Rattle.port_model.specs.declared.error.PortError.{PortError}
use Rattle.port_model.specs.declared.error.PortError.TheVariants.{SetsSpent, Memory}
use Rattle.port_model.specs.declared.values.timer_key.TimerKey.{TimerKey}
use Rattle.port_model.specs.PlainPort.{armed_left}
use Rattle.port_model.specs.Port.{PortState, put_into, expire_in, remove_from, set_in, stopped}
use Rattle.port_model.specs.Timers.{with_armed, without_armed}
use Rattle.port_model.specs.Take as take
use Rattle.port_model.specs.declared.inbox.entry.Entry.{Entry}
use Rattle.port_model.specs.declared.inbox.entry.Entry.TheVariants.{Signal, Timer}
use Rattle.port_model.specs.declared.inbox.entry.Fuse.{Fuse}
use Rattle.port_model.specs.declared.refused.Refused.{Refused}
use Rattle.port_model.specs.declared.inbox.placed.Placed.{Placed}
use Rattle.port_model.specs.Ends.{OwnerState}
use Rattle.port_model.specs.Put.{StartsWith, of, longer, IsTimely}

-- for lack of memory what the call was given comes back as it was
abbrev pub ComesBack : {T : Type 0} → Refused T → T → Type 0
ComesBack back value = (back.error ≡ Memory) × (back.value ≡ value)

-- what the port of an instance becomes by an entry where it is drawn: a signal's put, or the expiry of one of its own timers
abbrev pub after_entry : ℕ → PortState → ℕ → Entry → PortState
after_entry pid port at (Signal item) = put_into port item
after_entry pid port at (Timer fuse) = if fuse.pid == pid then expire_in port fuse.key fuse.arm fuse.due at else port

abbrev pub after_draw : ℕ → PortState → Placed → PortState
after_draw pid port placed = after_entry pid port placed.at placed.entry

-- and by some entries, one after the other
abbrev pub after_draws : ℕ → PortState → List Placed → PortState
after_draws pid port [] = port
after_draws pid port (placed ∷ more) = after_draws pid (after_draw pid port placed) more

-- what an owner becomes by a set, a reset and the stop
abbrev pub after_set : OwnerState → TimerKey → ℕ → OwnerState
after_set o key due = record o { state = set_in o.state key due; armed = with_armed key (o.state.sets + 1) due o.armed }

abbrev pub after_reset : OwnerState → TimerKey → OwnerState
after_reset o key = record o { state = remove_from o.state key; armed = without_armed key o.armed }

abbrev pub after_stop : OwnerState → OwnerState
after_stop o = record o { state = stopped o.state; armed = [] }

-- A set of a timer: its fuse has the port's number, the key, the number of the set and the time. A refused one changes nothing.
pub record Sets (old : OwnerState) (key : TimerKey) (due : ℕ) (fuse : Fuse) (new : OwnerState) : Type 0 where
  pub owner : new ≡ after_set old key due
  pub fuse_is : fuse ≡ record { pid = old.pid; key = key; arm = old.state.sets + 1; due = due }

pub record RefusesSet (old : OwnerState) (error : PortError) (new : OwnerState) : Type 0 where
  pub same : new ≡ old
  pub told : (error ≡ SetsSpent) ⊎ (error ≡ Memory)

-- the answer to a set
abbrev pub SetIs : OwnerState → OwnerState → TimerKey → ℕ → Result Fuse PortError → Type 0
SetIs old new key due result = MatchResult result (λ fuse. Sets old key due fuse new) (λ error. RefusesSet old error new)

-- The known list after some entries are drawn: with each of them it goes on as far as before, or up to what is drawn,
-- whichever is longer.
abbrev pub known_after : List Placed → List Placed → List Placed → List Placed
known_after known drawn [] = known
known_after known drawn (placed ∷ more) = known_after (longer known (drawn ++ placed ∷ [])) (drawn ++ placed ∷ []) more

-- Of the entries that are drawn after some others each is the next of its number, and an expiry was put at its due time or
-- later.
abbrev pub AreNext : List Placed → List Placed → Type 0
AreNext drawn [] = Unit {0}
AreNext drawn (placed ∷ more) =
    (0 < placed.number) × (placed.count ≡ length (of placed.number drawn) + 1) × IsTimely placed
    × AreNext (drawn ++ placed ∷ []) more

-- The owner drew these entries, in their order, and each made of its port what a put or an expiry makes. What it knew it knows.
-- No set or reset was made: what the sets gave is the same.
pub record IsDrawn (old new : OwnerState) (news : List Placed) : Type 0 where
  pub port : new.port ≡ old.port
  pub pid : new.pid ≡ old.pid
  pub gathered : new.gathered ≡ old.gathered
  pub drawn : new.drawn ≡ old.drawn ++ news
  pub next : AreNext old.drawn news
  pub known : new.known ≡ known_after old.known old.drawn news
  pub kept : StartsWith new.known old.known
  pub state : new.state ≡ after_draws old.pid old.state news
  pub armed : new.armed ≡ old.armed

-- it drew some entries, or none
abbrev pub HasDrawn : OwnerState → OwnerState → Type 0
HasDrawn old new = (news : List Placed) × IsDrawn old new news

-- the reply is not the signal or timer of a priority input
abbrev pub IsNoPriority : List Class → Taken → Type 0
IsNoPriority classes (Consumed got) = take.IsOrdinary classes got
IsNoPriority classes taken = Unit {0}

-- A take of the owner: it draws some entries, and then takes from its port as the standard says. After Nothing it was at a
-- fresh point: all of its known list is drawn. In a state with a priority input so it was after each other reply than an entry
-- of a priority input.
pub record TakesHere (classes : List Class) (old new : OwnerState) (taken : Taken) : Type 0 where
  pub news : List Placed
  pub draws : IsDrawn old (record new { state = after_draws old.pid old.state news; armed = old.armed }) news
  pub take : take.Takes classes (after_draws old.pid old.state news) taken new.state
  pub armed : new.armed ≡ armed_left taken old.armed
  pub fresh : taken ≡ Nothing → new.known ≡ new.drawn
  pub passed : Contains classes class.Priority → IsNoPriority classes taken → new.known ≡ new.drawn

-- The answer to a take. For lack of memory nothing is taken, and some entries were drawn.
abbrev pub TakeIs : List Class → OwnerState → OwnerState → Result Taken PortError → Type 0
TakeIs classes old new result =
    MatchResult result (λ taken. TakesHere classes old new taken) (λ error. (error ≡ Memory) × HasDrawn old new)

-- Nothing waits, and all that the owner knows of is drawn.
abbrev pub NothingWaits : OwnerState → Type 0
NothingWaits o = (o.state.waiting ≡ []) × (o.known ≡ o.drawn)
