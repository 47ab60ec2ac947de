-- What holds of every legal history.
use Rattle.std.specs.Prelude.{◌≡◌, ◌≢◌, ◌⊎◌, ℕ, Bool, true, false, List, [], ◌∷◌, ◌++◌, Option, Some, None, All, filter, if◌then◌else◌}
use Rattle.std.specs.List.{filter_map}
use Rattle.port_model.specs.declared.values.pid.Pid.{Pid}
use Rattle.port_model.specs.declared.values.item.Item.{Item}
use Rattle.port_model.specs.declared.values.timer_key.TimerKey.{TimerKey}
use Rattle.port_model.specs.declared.selection.Class.{Class}
use Rattle.port_model.specs.declared.selection.Class.TheVariants as class
use Rattle.port_model.specs.declared.got.Got.{Got}
use Rattle.port_model.specs.declared.got.Got.TheVariants.{Signal, Timer}
use Rattle.port_model.specs.declared.taken.Taken.{Taken}
use Rattle.port_model.specs.declared.taken.Taken.TheVariants.{Consumed, Discarded}
use Rattle.port_model.specs.History.{PortEvent, Put, Expire, Take, Set, Reset, Stop, IsLegal}
use Rattle.port_model.specs.Port.{PortState, is_spent}
use Rattle.port_model.specs.Same.{same_pid}
use Rattle.port_model.specs.Selection.{class_of}
use Rattle.port_model.specs.Take.{name_of, Takes}

-- the first list is the second with some entries left out
abbrev pub IsSublist : {X : Type 0} → List X → List X → Type 0
IsSublist xs [] = xs ≡ []
IsSublist {X} xs (y ∷ ys) = IsSublist xs ys ⊎ ((rest : List X) × (xs ≡ y ∷ rest) × IsSublist rest ys)

-- the signals of one sender among what waits, and among what is put
abbrev pub signal_from : Pid → Got → Option Item
signal_from sender (Signal item) = if same_pid item.sender sender then Some item else None
signal_from sender (Timer key) = None

abbrev pub signals_from : Pid → List Got → List Item
signals_from sender waiting = filter_map (signal_from sender) waiting

abbrev pub put_by : Pid → PortEvent → Option Item
put_by sender (Put item) = signal_from sender (Signal item)
put_by sender event = None

abbrev pub puts_by : Pid → List PortEvent → List Item
puts_by sender events = filter_map (put_by sender) events

-- The signals of one sender are never reordered: what waits of them stands in the order in which they waited and were put.
abbrev pub KeepsOrder : Type 0
KeepsOrder =
    (sender : Pid) (old new : PortState) (events : List PortEvent) → IsLegal old events new
    → IsSublist (signals_from sender new.waiting) (signals_from sender old.waiting ++ puts_by sender events)

-- the entries that a selection saves
abbrev pub is_saved : Class → Bool
is_saved class.Saved = true
is_saved c = false

abbrev pub saved_of : List Class → List Got → List Got
saved_of classes waiting = filter (λ got. is_saved (class_of classes (name_of got))) waiting

-- A saved entry stays: a take leaves all of them, in their order.
abbrev pub KeepsSaved : Type 0
KeepsSaved =
    (classes : List Class) (old new : PortState) (taken : Taken) → Takes classes old taken new
    → saved_of classes new.waiting ≡ saved_of classes old.waiting

abbrev pub IsNoSetOf : TimerKey → PortEvent → Type 0
IsNoSetOf key (Set other due arm) = other ≢ key
IsNoSetOf key event = Unit {0}

abbrev pub IsNoTakeOf : TimerKey → PortEvent → Type 0
IsNoTakeOf key (Take classes (Consumed got)) = got ≢ Timer key
IsNoTakeOf key (Take classes (Discarded got)) = got ≢ Timer key
IsNoTakeOf key event = Unit {0}

-- What was reset is never consumed or discarded, unless it is set again.
abbrev pub ResetsForGood : Type 0
ResetsForGood =
    (key : TimerKey) (old new : PortState) (events : List PortEvent) → IsLegal old (Reset key ∷ events) new
    → All (IsNoSetOf key) events → All (IsNoTakeOf key) events

-- an event that no call of the owner makes
abbrev pub IsFromOutside : PortEvent → Type 0
IsFromOutside (Put item) = Unit {0}
IsFromOutside (Expire key arm due at) = Unit {0}
IsFromOutside event = ⊥

-- After a stop nothing is consumed, and nothing waits.
abbrev pub StopsForGood : Type 0
StopsForGood =
    (old new : PortState) (events : List PortEvent) → IsLegal old (Stop ∷ events) new
    → All IsFromOutside events × (new.waiting ≡ [])

-- A spent set stays spent: no timer ever runs by it again.
abbrev pub SpentForGood : Type 0
SpentForGood =
    (key : TimerKey) (arm due : ℕ) (old new : PortState) (events : List PortEvent) → IsLegal old events new
    → is_spent old key arm due ≡ true → is_spent new key arm due ≡ true
