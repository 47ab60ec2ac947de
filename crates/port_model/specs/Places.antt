-- Where the entries stand that a port has passed over, by their names and by their timers.
use Rattle.std.specs.Prelude.{◌≡◌, ℕ, ◌^◌, All, ◌≤◌, ◌<◌, Bool, true, false, List, Option, None, Some, if◌then◌else◌}
use Rattle.std.specs.List.{list_any}
use Rattle.std.specs.Map.{lookup}
use Rattle.std.specs.Ordering.{nat_cmp, ordering_then}
use Rattle.std.specs.declared.cmp.Ordering.{Ordering}
use Rattle.std.specs.BTreeMap.{is_at}
use Rattle.std.specs.BTreeMap.Range.{IsLeBy}
use Rattle.port_model.specs.declared.values.item.SignalId.{SignalId}
use Rattle.port_model.specs.declared.values.timer_key.TimerKey.{TimerKey}
use Rattle.port_model.specs.declared.selection.Class.{Class}
use Rattle.port_model.specs.declared.got.Got.{Got}
use Rattle.port_model.specs.declared.places.NamedPlace.{NamedPlace}
use Rattle.port_model.specs.declared.wanted.Wanted.{Wanted}
use Rattle.port_model.specs.Selection.{class_of}
use Rattle.port_model.specs.Take.{name_of}
use Rattle.port_model.specs.Timers.{is_signal_of, key_order}
use Rattle.port_model.specs.Wanted.{is_wanted}

-- what is known of places: which names stand at which, and where the signals of timers stand
pub record PlacesValue : Type 0 where
  pub names : List NamedPlace
  pub timers : List (TimerKey × ℕ)

-- the names are numbers of 32 bits
abbrev pub IsNamed : NamedPlace → Type 0
IsNamed q = q.name.0 < 2 ^ 32

abbrev pub HaveNames : List NamedPlace → Type 0
HaveNames names = All IsNamed names

-- this name at this place
abbrev pub named_at : SignalId → ℕ → NamedPlace
named_at name place = record { name = name; place = place }

-- the order of names and places
abbrev pub named_order : NamedPlace → NamedPlace → Ordering
named_order a b = ordering_then (nat_cmp a.name.0 b.name.0) (nat_cmp a.place b.place)

-- an entry of that name is known at that place; and where the signal of a timer is known
abbrev pub has_place : PlacesValue → NamedPlace → Bool
has_place places q = list_any (is_at (named_order q)) places.names

abbrev pub place_of : PlacesValue → TimerKey → Option ℕ
place_of places key = lookup (is_at (key_order key)) places.timers

-- it is this name at this place
abbrev pub is_named : SignalId → ℕ → NamedPlace → Bool
is_named name place q = is_at (named_order (named_at name place)) q

-- nothing is known of any place
pub record IsBlank (places : PlacesValue) : Type 0 where
  pub names : (q : NamedPlace) → has_place places q ≡ false
  pub timers : (key : TimerKey) → place_of places key ≡ None

-- the same is known
pub record IsSame (old new : PlacesValue) : Type 0 where
  pub names : (q : NamedPlace) → has_place new q ≡ has_place old q
  pub timers : (key : TimerKey) → place_of new key ≡ place_of old key

-- if the entry is a timer's signal, it is known at this place, and that timer had no place before
pub record IsTimed (got : Got) (place : ℕ) (old new : PlacesValue) : Type 0 where
  pub timers : (key : TimerKey) → place_of new key ≡ (if is_signal_of key got then Some place else place_of old key)
  pub absent : (key : TimerKey) → is_signal_of key got ≡ true → place_of old key ≡ None

-- the entry is known at this place too
pub record IsNoted (got : Got) (place : ℕ) (old new : PlacesValue) : Type 0 where
  pub names : (q : NamedPlace) → has_place new q ≡ (if is_named (name_of got) place q then true else has_place old q)
  pub timed : IsTimed got place old new

-- the entry is known at this place no more
pub record IsUnnoted (got : Got) (place : ℕ) (old new : PlacesValue) : Type 0 where
  pub names : (q : NamedPlace) → has_place new q ≡ (if is_named (name_of got) place q then false else has_place old q)
  pub timers : (key : TimerKey) → place_of new key ≡ (if is_signal_of key got then None else place_of old key)

-- from this name on, the first name that has a place, with its first place; or none has one
pub record IsFirstFrom (name : SignalId) (places : PlacesValue) (found : NamedPlace) : Type 0 where
  pub there : has_place places found ≡ true
  pub from : name.0 ≤ found.name.0
  pub first : (q : NamedPlace) → has_place places q ≡ true → name.0 ≤ q.name.0 → IsLeBy named_order found q

abbrev pub NoneFrom : SignalId → PlacesValue → Type 0
NoneFrom name places = (q : NamedPlace) → has_place places q ≡ true → q.name.0 < name.0

-- the first place at which an entry stands that is wanted; or none is wanted
pub record IsFirstWanted (w : Wanted) (classes : List Class) (places : PlacesValue) (place : ℕ) : Type 0 where
  pub name : SignalId
  pub there : has_place places (named_at name place) ≡ true
  pub wanted : is_wanted w (class_of classes name) ≡ true
  pub first : (q : NamedPlace) → has_place places q ≡ true → is_wanted w (class_of classes q.name) ≡ true → place ≤ q.place

abbrev pub NoneWanted : Wanted → List Class → PlacesValue → Type 0
NoneWanted w classes places = (q : NamedPlace) → has_place places q ≡ true → is_wanted w (class_of classes q.name) ≡ false
